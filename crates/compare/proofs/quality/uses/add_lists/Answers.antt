use Rattle.std.proofs.Common.{◌++◌, append_assoc, append-nil, ap, sym, ◌∙◌}
use Rattle.theory.specs.Lists.{gathered}
use Rattle.compare.specs.Quality.Uses.{line_uses}
use Rattle.compare.proofs.quality.uses.add_lists.Goals as goal

pub loop-refs-init : goal.loop-refs-init
loop-refs-init c =
    ap (λ ls. c.args.uses.now.items ++ gathered (line_uses c.args.topology.now.arcs.arcs c.args.feature) ls)
    (c.into_iter-refs-iterator.ensures.into_iter_gives ∙ c.parts-refs-items.ensures)

pub loop-refs-preserved : goal.loop-refs-preserved
loop-refs-preserved c =
    let f = line_uses c.args.topology.now.arcs.arcs c.args.feature in
    ap (λ w. w ++ gathered f c.next.new.self) c.in_ok-add_line.ensures
    ∙ ap (λ r. c.loop-refs.uses.items ++ f r ++ gathered f c.next.new.self) c.as_slice.ensures
    ∙ append_assoc c.loop-refs.uses.items (f c.in-Some.refs.now) (gathered f c.next.new.self)
    ∙ ap (λ ls. c.loop-refs.uses.items ++ gathered f ls) (sym c.in-Some.ensures.steps)
    ∙ c.loop-refs.invariant

pub returns : goal.returns
returns c =
    let f = line_uses c.args.topology.now.arcs.arcs c.args.feature in
    sym (append-nil c.loop-refs.uses.items)
    ∙ ap (λ ls. c.loop-refs.uses.items ++ gathered f ls) (sym c.in-None.ensures.steps.0)
    ∙ c.loop-refs.invariant
