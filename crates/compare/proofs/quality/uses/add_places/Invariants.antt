use Rattle.std.proofs.Common.{◌≡◌, ◌++◌, drop}
use Rattle.compare.specs.Quality.Uses.{places_uses}
use Rattle.compare.proofs.quality.uses.add_places.Given as goal

abbrev pub invariant-loop-place : goal.invariant-loop-place
invariant-loop-place l = l.uses.items ++ places_uses l.fn.feature (drop l.place-index l.fn.places) ≡ l.fn.uses.items ++ places_uses l.fn.feature l.fn.places
