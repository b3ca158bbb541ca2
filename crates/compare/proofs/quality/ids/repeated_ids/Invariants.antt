use Rattle.std.proofs.Common.{◌≡◌, ◌++◌, drop}
use Rattle.compare.specs.Quality.Ids.{ids_in, numbers_of, occurs_again}
use Rattle.compare.proofs.quality.ids.repeated_ids.Given as goal

abbrev pub invariant-loop-number : goal.invariant-loop-number
invariant-loop-number l = l.numbers.items ++ numbers_of (occurs_again (ids_in l.fn.geometries)) l.number (ids_in (drop l.number l.fn.geometries)) ≡ numbers_of (occurs_again (ids_in l.fn.geometries)) 0 (ids_in l.fn.geometries)
