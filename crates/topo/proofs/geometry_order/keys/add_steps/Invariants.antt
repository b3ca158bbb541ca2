use Rattle.std.proofs.Common.{◌≡◌, ◌++◌, drop, map}
use Rattle.arcs.specs.Steps.{step_along}
use Rattle.topo.proofs.geometry_order.keys.add_steps.Given as goal

abbrev pub invariant-loop-arc : goal.invariant-loop-arc
invariant-loop-arc l = l.steps.items ++ map (step_along l.fn.arcs.arcs) (drop l.arc-index l.fn.used) ≡ l.fn.steps.items ++ map (step_along l.fn.arcs.arcs) l.fn.used
