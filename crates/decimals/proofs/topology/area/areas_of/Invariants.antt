use Rattle.std.proofs.Common.{◌≡◌, ◌++◌, map}
use Rattle.decimals.specs.Topology.Turning.{area_along}
use Rattle.decimals.proofs.topology.area.areas_of.Given as goal

abbrev pub invariant-loop-arc : goal.invariant-loop-arc
invariant-loop-arc l = l.areas.items ++ map area_along l.arc-iterator ≡ map area_along l.fn.arcs.arcs
