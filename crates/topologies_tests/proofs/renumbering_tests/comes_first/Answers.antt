use Rattle.std.proofs.Common.{subst}
use Rattle.lines.proofs.Dropping.{drop_item}
use Rattle.topo.specs.GeometryOrder.{HaveFeatures}
use Rattle.topologies_tests.proofs.renumbering_tests.comes_first.Goals as goal

pub are_in_order-requires-clause-other_there : goal.are_in_order-requires-clause-other_there
are_in_order-requires-clause-other_there c =
    (subst (HaveFeatures c.args.arcs.now.arcs) (drop_item c.args.others.now c.loop-other.other-index c.other-item.result c.loop-other-test.true c.other-item.is) c.loop-other.invariant.there).0

pub loop-other-preserved : goal.loop-other-preserved
loop-other-preserved c = record {
  recorded = c.are_in_order.ensures;
  there = (subst (HaveFeatures c.args.arcs.now.arcs) (drop_item c.args.others.now c.loop-other.other-index c.other-item.result c.loop-other-test.true c.other-item.is)
      c.loop-other.invariant.there).1;
}
