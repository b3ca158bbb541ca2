use Rattle.std.proofs.Common.{ℕ, length}
use Rattle.decimal_maps.proofs.Placing.{PassedHeights}
use Rattle.decimal_maps.proofs.position.drop_heights.Given as goal

abbrev pub invariant-heights : goal.invariant-heights
invariant-heights l = (depth : ℕ) → PassedHeights l.grid depth l.initial.reader l.reader l.initial.tally l.tally

abbrev pub decreases-heights : goal.decreases-heights
decreases-heights l = length l.reader
