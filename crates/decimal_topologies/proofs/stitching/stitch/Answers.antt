use Rattle.decimal_topologies.proofs.Stitches.{stitched_more}
use Rattle.decimal_topologies.proofs.stitching.stitch.Goals as goal

pub loop-i-preserved : goal.loop-i-preserved
loop-i-preserved c =
    stitched_more c.args.arcs.now c.args.values.now c.loop-i.i c.index-values-i.result _ _ _ _ _ c.loop-i-test.true c.index-values-i.is c.loop-i.invariant c.in_ok-put_arc.ensures.put c.in_ok-put_arc.ensures.counted
