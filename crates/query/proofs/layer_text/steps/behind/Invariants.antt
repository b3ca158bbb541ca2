use Rattle.std.proofs.Common.{◌≡◌, length}
use Rattle.query.specs.Steps.{behind_from, behind_step}
use Rattle.query.proofs.layer_text.steps.behind.Given as goal

abbrev pub invariant-loop-next : goal.invariant-loop-next
invariant-loop-next l = behind_from l.fn.step l.here l.walk ≡ behind_step l.fn.step l.fn.walk

abbrev pub decreases-loop-next : goal.decreases-loop-next
decreases-loop-next l = length l.walk
