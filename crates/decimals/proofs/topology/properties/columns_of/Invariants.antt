use Rattle.std.proofs.Common.{map, take}
use Rattle.attributes.specs.Columns.{AreColumns}
use Rattle.decimals.specs.Topology.LayersBack.{props_of}
use Rattle.decimals.proofs.topology.properties.columns_of.Given as goal

abbrev pub invariant-loop-geometry : goal.invariant-loop-geometry
invariant-loop-geometry l = AreColumns l.columns (map props_of (take l.geometry-index l.geometries))
