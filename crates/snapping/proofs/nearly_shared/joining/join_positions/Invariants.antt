use Rattle.std.proofs.Common.{◌≡◌, ◌++◌, drop, map}
use Rattle.snapping.specs.NearlyShared.Joined.{target_in}
use Rattle.snapping.proofs.nearly_shared.joining.join_positions.Given as goal

abbrev pub invariant-loop-position : goal.invariant-loop-position
invariant-loop-position l = l.moved.items ++ map (target_in l.clusters) (drop l.position-index l.positions) ≡ map (target_in l.clusters) l.positions
