use Rattle.std.proofs.Common.{◌≡◌, ◌≤◌, ◌++◌, drop, length, map, take}
use Rattle.compare.specs.Quality.Found.{places_of}
use Rattle.compare.specs.Quality.Near.{near_pairs}
use Rattle.compare.proofs.quality.pairs.first_near.Given as goal

abbrev pub invariant-loop-number : goal.invariant-loop-number
invariant-loop-number l = record {
  kept : take l.fn.most (l.first.items ++ map places_of (near_pairs l.fn.steps (drop l.number l.fn.vertices))) ≡ take l.fn.most (map places_of (near_pairs l.fn.steps l.fn.vertices));
  few : length l.first.items ≤ l.fn.most;
}
