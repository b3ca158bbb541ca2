use Rattle.std.proofs.Common.{◌≤◌, ◌∷◌, ◌-◌, length, take}
use Rattle.compare.specs.Quality.Near.{Ascend, NoneNear}
use Rattle.compare.proofs.quality.search.count_beyond.Given as goal

abbrev pub invariant-loop-low : goal.invariant-loop-low
invariant-loop-low l = record {
  low : l.low ≤ l.high;
  high : l.high ≤ length l.fn.behind;
  none : Ascend (l.fn.next ∷ l.fn.behind) → NoneNear l.fn.steps l.fn.one (take l.low l.fn.behind);
}

abbrev pub decreases-loop-low : goal.decreases-loop-low
decreases-loop-low l = l.high - l.low
