use Rattle.std.proofs.Common.{◌++◌, append_assoc, append-nil, ap, sym, ◌∙◌}
use Rattle.theory.specs.Lists.{gathered}
use Rattle.validate.specs.ArcEnds.{line_ends}
use Rattle.validate.proofs.accept.ends.add_body.Goals as goal

pub loop-refs-init : goal.loop-refs-init
loop-refs-init g c =
    ap (λ ls. c.args.ends.now.items ++ gathered (line_ends (g.A.NumberedArcs.arcs c.args.arcs.now)) ls) (c.into_iter-refs-iterator.ensures.into_iter_gives ∙ c.lines-refs-items.ensures)

pub loop-refs-preserved : goal.loop-refs-preserved
loop-refs-preserved g c =
    let f = line_ends (g.A.NumberedArcs.arcs c.args.arcs.now) in
    ap (λ w. w ++ gathered f c.next.new.self) (c.in_ok-add_line_ends.ensures ∙ ap (λ w. c.loop-refs.ends.items ++ f w) c.as_slice.ensures)
    ∙ append_assoc c.loop-refs.ends.items (f c.in-Some.refs.now) (gathered f c.next.new.self)
    ∙ ap (λ ls. c.loop-refs.ends.items ++ gathered f ls) (sym c.in-Some.ensures.steps)
    ∙ c.loop-refs.invariant

pub returns : goal.returns
returns g c =
    let f = line_ends (g.A.NumberedArcs.arcs c.args.arcs.now) in
    sym (append-nil c.loop-refs.ends.items)
    ∙ ap (λ ls. c.loop-refs.ends.items ++ gathered f ls) (sym c.in-None.ensures.steps.0)
    ∙ c.loop-refs.invariant
