use Rattle.std.proofs.Common.{◌≡◌, drop}
use Rattle.query.specs.Info.{kinds_of, total, with_each}
use Rattle.query.proofs.info.count_kinds.Given as goal

abbrev pub invariant-loop-geometry : goal.invariant-loop-geometry
invariant-loop-geometry l = (with_each l.kinds (drop l.geometry-index l.geometries) ≡ kinds_of l.geometries) × (total l.kinds ≡ l.geometry-index)
