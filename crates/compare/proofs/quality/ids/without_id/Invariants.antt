use Rattle.std.proofs.Common.{◌≡◌, ◌++◌, drop}
use Rattle.compare.specs.Quality.Ids.{ids_in, is_missing, numbers_of}
use Rattle.compare.proofs.quality.ids.without_id.Given as goal

abbrev pub invariant-loop-number : goal.invariant-loop-number
invariant-loop-number l = l.numbers.items ++ numbers_of is_missing l.number (ids_in (drop l.number l.fn.geometries)) ≡ numbers_of is_missing 0 (ids_in l.fn.geometries)
