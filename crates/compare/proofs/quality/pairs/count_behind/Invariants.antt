use Rattle.std.proofs.Common.{◌≡◌, ◌+◌, ◌∷◌, length}
use Rattle.compare.specs.Quality.Near.{Ascend, near_to}
use Rattle.compare.proofs.quality.pairs.count_behind.Given as goal

abbrev pub invariant-loop-next : goal.invariant-loop-next
invariant-loop-next l = record {
  counted : l.count + length (near_to l.fn.steps l.fn.one l.left) ≡ length (near_to l.fn.steps l.fn.one l.fn.behind);
  ascend : Ascend (l.fn.one ∷ l.left);
}

abbrev pub decreases-loop-next : goal.decreases-loop-next
decreases-loop-next l = length l.left
