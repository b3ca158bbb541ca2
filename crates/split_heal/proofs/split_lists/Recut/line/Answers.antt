use Rattle.std.proofs.Common.{◌≡◌, IfOk, subst}
use Rattle.theory.specs.Refinement.{replaced}
use Rattle.split_heal.specs.SplitParts.{of_side}
use Rattle.split_heal.proofs.Lists.{if_ok, line_replaced}
use Rattle.split_heal.proofs.split_lists.Recut.line.Goals as goal

pub returns-clause-computed : goal.returns-clause-computed
returns-clause-computed c = subst (λ ps. IfOk c.line.result (λ v. v.items ≡ replaced ps c.args.used.now)) c.lists.ensures.pieces c.line.ensures

pub returns-clause-stitches : goal.returns-clause-stitches
returns-clause-stitches c =
    let ps = of_side c.args.side c.args.self.now in
    if_ok c.line.result _ _ (subst (λ ps. IfOk c.line.result (λ v. v.items ≡ replaced ps c.args.used.now)) c.lists.ensures.pieces c.line.ensures)
    (λ v e. line_replaced c.args.self.now.arcs.arcs ps c.args.used.now v.items e)
