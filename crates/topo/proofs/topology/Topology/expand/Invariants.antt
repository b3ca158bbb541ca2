use Rattle.std.proofs.Common.{◌≡◌, drop}
use Rattle.std.specs.FinMap.{empty, entries}
use Rattle.shapes.specs.Maps.{Layers}
use Rattle.topo.specs.OfMap.{IsOf}
use Rattle.topo.proofs.Filling.{with_entries}
use Rattle.topo.proofs.topology.Topology.expand.Given as goal

abbrev pub invariant-loop-layer : goal.invariant-loop-layer
invariant-loop-layer l = (m : Layers) → IsOf m l.fn.self → with_entries l.map (drop l.layer-index (entries m)) ≡ with_entries empty (entries m)
