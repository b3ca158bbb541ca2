use Rattle.std.proofs.Common.{sym, subst}
use Rattle.reading.specs.FaultLists.Found.{pairs_of}
use Rattle.decimal_faults.specs.Positions.{height_faults}
use Rattle.decimal_faults.proofs.Items.{Judged, judged_none, judged_more, judged_all}
use Rattle.decimal_faults.proofs.position.judge_heights.Goals as goal

pub loop-i-init : goal.loop-i-init
loop-i-init c =
    let vs = c.args.values.now in
    subst (λ fs. Judged height_faults vs 2 2 (pairs_of fs)) (sym c.new-found.ensures.items) (judged_none height_faults vs 2)

pub loop-i-preserved : goal.loop-i-preserved
loop-i-preserved c =
    judged_more height_faults c.args.values.now 2 c.loop-i.i c.index-values-i.result _ (pairs_of c.in_ok-height.height.items) _ c.loop-i-test.true c.index-values-i.is c.loop-i.invariant
    c.in_ok-height.ensures c.in_ok-put_under_index.ensures

pub returns : goal.returns
returns c = judged_all height_faults c.args.values.now 2 c.loop-i.i _ c.loop-i-test.false c.loop-i.invariant
