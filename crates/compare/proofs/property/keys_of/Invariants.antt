use Rattle.std.proofs.Common.{List, drop, ◌++◌}
use Rattle.shapes.specs.declared.shape.Id.{Id}
use Rattle.compare.specs.Keyed.{AreKeys}
use Rattle.compare.proofs.property.keys_of.Given as goal

abbrev pub invariant-loop-geometry : goal.invariant-loop-geometry
invariant-loop-geometry l = (rest : List Id) → AreKeys l.fn.name (drop l.geometry-index l.fn.geometries) rest → AreKeys l.fn.name l.fn.geometries (l.keys.items ++ rest)
