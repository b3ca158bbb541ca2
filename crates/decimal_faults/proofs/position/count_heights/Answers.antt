use Rattle.std.proofs.Common.{sym}
use Rattle.decimal_faults.proofs.Heights.{counted_more}
use Rattle.decimal_faults.proofs.position.count_heights.Goals as goal

pub loop-i-preserved : goal.loop-i-preserved
loop-i-preserved c =
    counted_more c.args.grid.now c.args.values.now c.loop-i.i c.index-values-i.result _ _ c.loop-i.tally _ c.loop-i-test.true c.index-values-i.is c.requires (sym c.in-Some.ensures) c.add_height.ensures c.loop-i.invariant
