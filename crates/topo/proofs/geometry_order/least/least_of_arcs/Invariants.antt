use Rattle.std.proofs.Common.{◌≡◌, ◌++◌, map}
use Rattle.topo.specs.GeometryOrder.Least.{least_both}
use Rattle.topo.proofs.geometry_order.least.least_of_arcs.Given as goal

abbrev pub invariant-loop-arc : goal.invariant-loop-arc
invariant-loop-arc l = l.least.items ++ map least_both l.arc-iterator ≡ map least_both l.fn.arcs.arcs
