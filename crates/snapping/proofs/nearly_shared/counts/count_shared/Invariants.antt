use Rattle.std.proofs.Common.{◌≡◌, ◌+◌, drop, length}
use Rattle.snapping.specs.NearlyShared.Shared.{shared}
use Rattle.snapping.proofs.nearly_shared.counts.count_shared.Given as goal

abbrev pub invariant-loop-number : goal.invariant-loop-number
invariant-loop-number l = l.count + length (shared (drop l.number l.fn.vertices)) ≡ length (shared l.fn.vertices)
