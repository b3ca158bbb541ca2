use Rattle.std.proofs.Common.{◌≡◌, ◌≤◌, ◌++◌, ◌∷◌, length, map}
use Rattle.compare.specs.Quality.Found.{places_at}
use Rattle.compare.specs.Quality.Near.{Ascend, near_to}
use Rattle.compare.proofs.quality.pairs.add_near.Given as goal

abbrev pub invariant-loop-next : goal.invariant-loop-next
invariant-loop-next l = record {
  kept : l.places.items ++ map (places_at l.fn.one) (near_to l.fn.steps l.fn.one l.left) ≡ l.fn.places.items ++ map (places_at l.fn.one) (near_to l.fn.steps l.fn.one l.fn.behind);
  ascend : Ascend (l.fn.one ∷ l.left);
  few : length l.places.items ≤ l.fn.most;
}

abbrev pub decreases-loop-next : goal.decreases-loop-next
decreases-loop-next l = length l.left
