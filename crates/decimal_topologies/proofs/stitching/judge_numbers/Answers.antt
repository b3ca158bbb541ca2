use Rattle.reading.specs.FaultLists.Found.{pairs_of}
use Rattle.decimal_topologies.proofs.Judging.{judged_more}
use Rattle.decimal_topologies.proofs.stitching.judge_numbers.Goals as goal

pub loop-i-preserved : goal.loop-i-preserved
loop-i-preserved c =
    judged_more c.args.arcs.now c.args.values.now c.loop-i.i c.loop-i.end _ c.index-values-i.result c.ref_of-number.result _ (pairs_of c.in_ok-part.part.items) _ c.loop-i-test.true c.index-values-i.is c.ref_of-number.ensures
    c.loop-i.invariant c.in_ok-part.ensures c.in_ok-put_under_index.ensures c.end_at-end.ensures
