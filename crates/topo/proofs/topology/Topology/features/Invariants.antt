use Rattle.std.proofs.Common.{◌≡◌, ◌++◌, List, drop}
use Rattle.shapes.specs.declared.feature.Feature.{Feature}
use Rattle.topo.specs.Features.{AreFeaturesOf}
use Rattle.topo.proofs.topology.Topology.features.Given as goal

abbrev pub invariant-loop-geometry : goal.invariant-loop-geometry
invariant-loop-geometry l =
    (fs : List Feature) → AreFeaturesOf l.fn.self.arcs.arcs fs l.fn.geometries → l.features.items ++ drop l.geometry-index fs ≡ fs
