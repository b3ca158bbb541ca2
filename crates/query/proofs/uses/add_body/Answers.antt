use Rattle.std.proofs.Common.{◌++◌, append_assoc, append-nil, ap, sym, ◌∙◌}
use Rattle.theory.specs.Lists.{gathered}
use Rattle.query.specs.Uses.{refs_uses}
use Rattle.query.proofs.BodyUses.{uses_of_lists}
use Rattle.query.proofs.uses.add_body.Goals as goal

pub loop-refs-init : goal.loop-refs-init
loop-refs-init c = ap (λ ls. c.args.uses.now.items ++ gathered (refs_uses c.args.index) ls) (c.into_iter-refs-iterator.ensures.into_iter_gives ∙ c.parts-refs-items.ensures)

pub loop-refs-preserved : goal.loop-refs-preserved
loop-refs-preserved c =
    let f = refs_uses c.args.index in
    ap (λ w. w ++ gathered f c.next.new.self) c.in_ok-add_refs.ensures
    ∙ ap (λ r. c.loop-refs.uses.items ++ f r ++ gathered f c.next.new.self) c.as_slice.ensures
    ∙ append_assoc c.loop-refs.uses.items (f c.in-Some.refs.now) (gathered f c.next.new.self)
    ∙ ap (λ ls. c.loop-refs.uses.items ++ gathered f ls) (sym c.in-Some.ensures.steps)
    ∙ c.loop-refs.invariant

pub returns : goal.returns
returns c =
    let f = refs_uses c.args.index in
    sym (append-nil c.loop-refs.uses.items)
    ∙ ap (λ ls. c.loop-refs.uses.items ++ gathered f ls) (sym c.in-None.ensures.steps.0)
    ∙ c.loop-refs.invariant
    ∙ ap (λ w. c.args.uses.now.items ++ w) (uses_of_lists c.args.index c.args.body.now)
