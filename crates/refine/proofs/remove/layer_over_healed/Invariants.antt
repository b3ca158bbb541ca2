use Rattle.std.proofs.Common.{◌≡◌, ◌++◌, drop, map}
use Rattle.split_heal.specs.Starts.{starts_by}
use Rattle.topo.specs.LayerLaws.Less.{geometry_over_healed}
use Rattle.refine.proofs.remove.layer_over_healed.Given as goal

abbrev pub invariant-loop-geometry : goal.invariant-loop-geometry
invariant-loop-geometry l =
    l.geometries.items ++ map (geometry_over_healed l.fn.arcs.arcs.arcs (starts_by l.fn.arcs.pieces)) (map (λ g. g.now) (drop l.geometry-index l.fn.layer.geometries.items))
    ≡ map (geometry_over_healed l.fn.arcs.arcs.arcs (starts_by l.fn.arcs.pieces)) (map (λ g. g.now) l.fn.layer.geometries.items)
