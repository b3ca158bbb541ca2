use Rattle.std.proofs.Common.{length}
use Rattle.normalize.specs.Pieces.{StitchOn}
use Rattle.normalize.proofs.stitches.stitch_to.Given as goal

abbrev pub invariant-loop-used : goal.invariant-loop-used
invariant-loop-used l = StitchOn l.table.arcs l.others l.left → StitchOn l.fn.table.arcs l.fn.refs l.fn.positions

abbrev pub decreases-loop-used : goal.decreases-loop-used
decreases-loop-used l = length l.others
