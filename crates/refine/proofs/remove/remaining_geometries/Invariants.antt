use Rattle.std.proofs.Common.{◌≡◌, ◌++◌, drop, map}
use Rattle.topo.specs.LayerLaws.Leaving.{order_to, others}
use Rattle.refine.proofs.remove.remaining_geometries.Given as goal

abbrev pub invariant-loop-geometry : goal.invariant-loop-geometry
invariant-loop-geometry l =
    map (λ g. g.now) l.left.items ++ others (order_to l.fn.topology.arcs.arcs) (drop l.geometry-index l.fn.geometries) (map (λ f. f.now) l.removed.items)
    ≡ others (order_to l.fn.topology.arcs.arcs) l.fn.geometries (map (λ f. f.now) l.fn.features.items)
