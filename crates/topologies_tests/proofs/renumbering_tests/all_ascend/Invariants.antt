use Rattle.std.proofs.Common.{length}
use Rattle.topo.specs.GeometryOrder.Noted.{IsRecordedFor}
use Rattle.topo.specs.GeometryOrder.{HaveFeatures}
use Rattle.topologies_tests.proofs.renumbering_tests.all_ascend.Given as goal

abbrev pub invariant-loop-geometry : goal.invariant-loop-geometry
invariant-loop-geometry l = record { recorded : IsRecordedFor l.fn.arcs.arcs l.order; there : HaveFeatures l.fn.arcs.arcs l.left }

abbrev pub decreases-loop-geometry : goal.decreases-loop-geometry
decreases-loop-geometry l = length l.left
