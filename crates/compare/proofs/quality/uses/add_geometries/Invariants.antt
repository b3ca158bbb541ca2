use Rattle.std.proofs.Common.{◌≡◌, ◌++◌, drop}
use Rattle.compare.specs.Quality.Uses.{borrowed}
use Rattle.compare.proofs.quality.uses.add_geometries.Given as goal

abbrev pub invariant-loop-geometry : goal.invariant-loop-geometry
invariant-loop-geometry l = borrowed l.recorded.items ++ drop l.geometry-index l.fn.geometries ≡ borrowed l.fn.recorded.items ++ l.fn.geometries
