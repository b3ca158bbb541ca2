use Rattle.std.proofs.Common.{◌≡◌, ◌++◌, drop, map}
use Rattle.topo.specs.GeometryOrder.{LayersHaveFeatures}
use Rattle.topo.specs.LayerLaws.Leaving.{layer_less}
use Rattle.refine.specs.Borrowed.{all_borrowed}
use Rattle.refine.proofs.remove.remaining_layers.Given as goal

abbrev pub invariant-loop-layer : goal.invariant-loop-layer
invariant-loop-layer l = record {
  there : LayersHaveFeatures l.fn.topology.arcs.arcs (drop l.layer-index l.fn.topology.layers);
  made : all_borrowed l.layers.items ++ map (layer_less l.fn.topology.arcs.arcs l.fn.removed) (drop l.layer-index l.fn.topology.layers)
      ≡ map (layer_less l.fn.topology.arcs.arcs l.fn.removed) l.fn.topology.layers;
}
