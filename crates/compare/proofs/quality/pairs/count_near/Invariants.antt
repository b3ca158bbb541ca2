use Rattle.std.proofs.Common.{◌≡◌, ◌+◌, drop, length}
use Rattle.compare.specs.Quality.Near.{near_pairs}
use Rattle.compare.proofs.quality.pairs.count_near.Given as goal

abbrev pub invariant-loop-number : goal.invariant-loop-number
invariant-loop-number l = l.count + length (near_pairs l.fn.steps (drop l.number l.fn.vertices)) ≡ length (near_pairs l.fn.steps l.fn.vertices)
