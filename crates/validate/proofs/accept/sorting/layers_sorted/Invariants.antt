use Rattle.topo.specs.GeometryOrder.Noted.{IsRecordedFor}
use Rattle.validate.proofs.AcceptLemmas.Sorted.{Rest}
use Rattle.validate.proofs.accept.sorting.layers_sorted.Given as goal

abbrev pub invariant-loop-layer : goal.invariant-loop-layer
invariant-loop-layer l = record {
  recorded : IsRecordedFor l.fn.arcs.arcs l.order;
  rest : Rest l.fn.arcs.arcs l.fn.layers.items l.layer-iterator.rest.items l.sorted.items;
}
