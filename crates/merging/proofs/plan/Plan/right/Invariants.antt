use Rattle.std.proofs.Common.{◌-◌}
use Rattle.merging.specs.Groupings.{IsRight}
use Rattle.merging.proofs.plan.Plan.right.Given as goal

abbrev pub invariant-loop-index : goal.invariant-loop-index
invariant-loop-index l = IsRight l.plan l.index (l.count - l.index)
