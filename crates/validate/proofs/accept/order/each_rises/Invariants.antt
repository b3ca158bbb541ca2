use Rattle.std.proofs.Common.{◌≡◌, drop}
use Rattle.topo.specs.GeometryOrder.Noted.{IsRecordedFor}
use Rattle.topo.specs.GeometryOrder.{LayersHaveFeatures}
use Rattle.validate.specs.Accept.Order as spec
use Rattle.validate.proofs.accept.order.each_rises.Given as goal

abbrev pub invariant-loop-layer : goal.invariant-loop-layer
invariant-loop-layer l = record {
  recorded : IsRecordedFor l.fn.table.arcs l.order;
  there : LayersHaveFeatures l.fn.table.arcs (drop l.layer-index l.fn.layers);
  rest : spec.each_rises l.fn.table.arcs (drop l.layer-index l.fn.layers) ≡ spec.each_rises l.fn.table.arcs l.fn.layers;
}
