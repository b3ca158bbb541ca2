use Rattle.std.proofs.Common.{◌≡◌, is_some, map, take}
use Rattle.std.specs.BTreeMap.{get_by_text}
use Rattle.decimals.specs.Topology.LayersBack.{geometry_back}
use Rattle.decimals.proofs.topology.turning.Turning.layer_in.Given as goal

abbrev pub invariant-loop-geometry : goal.invariant-loop-geometry
invariant-loop-geometry l = l.geometries.items ≡ map (geometry_back (λ name. is_some (get_by_text l.numbers name)) l.self.rules l.self.areas.items) (take l.geometry-index l.geometry-items)
