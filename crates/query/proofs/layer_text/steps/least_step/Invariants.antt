use Rattle.std.proofs.Common.{◌≡◌, Some, length}
use Rattle.arcs.specs.Steps.{least_from, step}
use Rattle.query.specs.Steps.{least_step}
use Rattle.query.proofs.layer_text.steps.least_step.Given as goal

abbrev pub invariant-loop-next : goal.invariant-loop-next
invariant-loop-next l = Some (least_from step l.least l.here l.walk) ≡ least_step l.fn.walk

abbrev pub decreases-loop-next : goal.decreases-loop-next
decreases-loop-next l = length l.walk
