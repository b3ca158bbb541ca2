use Rattle.std.proofs.Common.{◌≡◌, ◌++◌, drop}
use Rattle.query.specs.EachOnce.{borrowed}
use Rattle.query.proofs.distinct.add_geometries.Given as goal

abbrev pub invariant-loop-geometry : goal.invariant-loop-geometry
invariant-loop-geometry l = borrowed l.found.items ++ drop l.geometry-index l.fn.geometries ≡ borrowed l.fn.found.items ++ l.fn.geometries
