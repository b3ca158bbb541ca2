use Rattle.std.proofs.Common.{◌≡◌, drop}
use Rattle.arcs.specs.Steps.{least_from, step, step_back}
use Rattle.topo.proofs.geometry_order.least.least_steps.Given as goal

abbrev pub invariant-loop-next : goal.invariant-loop-next
invariant-loop-next l =
    (least_from step l.forward l.here (drop l.next-index l.rest) ≡ least_from step l.initial.forward l.initial.here l.rest)
    × (least_from step_back l.backward l.here (drop l.next-index l.rest) ≡ least_from step_back l.initial.backward l.initial.here l.rest)
