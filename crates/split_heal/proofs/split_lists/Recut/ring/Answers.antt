use Rattle.std.proofs.Common.{◌≡◌, IfOk, subst}
use Rattle.lines.specs.Turned.{position_cmp}
use Rattle.theory.specs.Refinement.{replaced, turned_used}
use Rattle.arcs.specs.Arcs.{Arcs}
use Rattle.split_heal.specs.SplitParts.{of_side}
use Rattle.split_heal.proofs.Lists.{if_ok, ring_replaced}
use Rattle.split_heal.proofs.split_lists.Recut.ring.Goals as goal

pub returns-clause-computed : goal.returns-clause-computed
returns-clause-computed c =
    subst (λ (t : Arcs). IfOk c.ring.result (λ v. v.items ≡ turned_used position_cmp t.arcs (replaced (of_side c.args.side c.args.self.now) c.args.used.now))) c.lists.ensures.arcs
    (subst (λ ps. IfOk c.ring.result (λ v. v.items ≡ turned_used position_cmp c.lists.result.recut.now.arcs.arcs (replaced ps c.args.used.now))) c.lists.ensures.pieces c.ring.ensures)

pub returns-clause-stitches : goal.returns-clause-stitches
returns-clause-stitches c =
    if_ok c.ring.result _ _ (returns-clause-computed c)
    (λ v e. ring_replaced c.args.self.now.arcs.arcs (of_side c.args.side c.args.self.now) c.args.used.now v.items e)
