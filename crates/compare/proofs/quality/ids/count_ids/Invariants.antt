use Rattle.std.proofs.Common.{◌≡◌, take}
use Rattle.shapes.specs.declared.shape.Id.{Id}
use Rattle.compare.specs.Quality.Ids.{count_of, ids_in, times}
use Rattle.compare.proofs.quality.ids.count_ids.Given as goal

abbrev pub invariant-loop-number : goal.invariant-loop-number
invariant-loop-number l = (q : Id) → times q l.counts ≡ count_of q (ids_in (take l.number l.fn.geometries))
