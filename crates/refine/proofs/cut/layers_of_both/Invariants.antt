use Rattle.std.proofs.Common.{◌≡◌, ◌++◌}
use Rattle.std.specs.Vec.Iter.{into_iter_items}
use Rattle.topo.specs.GeometryOrder.Noted.{IsRecordedFor}
use Rattle.topo.specs.GeometryOrder.{LayersHaveFeatures}
use Rattle.topo.specs.LayerLaws.CutLayers.{layers_merged}
use Rattle.refine.proofs.cut.layers_of_both.Given as goal

abbrev pub invariant-loop-layer : goal.invariant-loop-layer
invariant-loop-layer l = record {
  recorded : IsRecordedFor l.fn.arcs.arcs l.by;
  left : LayersHaveFeatures l.fn.arcs.arcs (into_iter_items l.layer-iterator);
  right : LayersHaveFeatures l.fn.arcs.arcs l.others.items;
  all : l.merged.items ++ layers_merged l.fn.arcs.arcs (into_iter_items l.layer-iterator) l.others.items
      ≡ layers_merged l.fn.arcs.arcs l.fn.left.items l.fn.right.items;
}
