use Rattle.std.proofs.Common.{◌≡◌, ◌++◌, drop}
use Rattle.topo.specs.GeometryOrder.Noted.{IsRecordedFor}
use Rattle.topo.specs.GeometryOrder.{LayersHaveFeatures}
use Rattle.refine.specs.Difference.{layers_without}
use Rattle.refine.specs.Borrowed.{all_borrowed}
use Rattle.refine.proofs.difference.remaining_layers.Given as goal

abbrev pub invariant-loop-layer : goal.invariant-loop-layer
invariant-loop-layer l = record {
  recorded : IsRecordedFor l.fn.both.arcs.arcs l.by;
  there : LayersHaveFeatures l.fn.both.arcs.arcs l.others.items;
  made : all_borrowed l.left.items ++ layers_without l.fn.both (drop l.layer-index l.fn.layers) l.others.items ≡ layers_without l.fn.both l.fn.layers l.fn.removed.items;
}
