use Rattle.std.proofs.Common.{drop}
use Rattle.topo.specs.GeometryOrder.Noted.{IsRecordedFor}
use Rattle.topo.specs.GeometryOrder.{HaveFeatures}
use Rattle.topologies_tests.proofs.renumbering_tests.comes_first.Given as goal

abbrev pub invariant-loop-other : goal.invariant-loop-other
invariant-loop-other l = record {
  recorded : IsRecordedFor l.fn.arcs.arcs l.order;
  there : HaveFeatures l.fn.arcs.arcs (drop l.other-index l.fn.others);
}
