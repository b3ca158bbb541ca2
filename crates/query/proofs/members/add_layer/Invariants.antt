use Rattle.std.proofs.Common.{◌≡◌, ◌++◌, List, drop, map}
use Rattle.shapes.specs.declared.feature.Feature.{Feature}
use Rattle.topo.specs.Features.{AreFeaturesOf}
use Rattle.query.specs.Members.{held, paired}
use Rattle.query.proofs.members.add_layer.Given as goal

abbrev pub invariant-loop-geometry : goal.invariant-loop-geometry
invariant-loop-geometry l =
    (fs : List Feature) → AreFeaturesOf l.fn.topology.arcs.arcs fs l.fn.geometries
    → map held l.members.items ++ paired (drop l.geometry-index fs) (drop l.geometry-index l.fn.geometries)
    ≡ map held l.fn.members.items ++ paired fs l.fn.geometries
