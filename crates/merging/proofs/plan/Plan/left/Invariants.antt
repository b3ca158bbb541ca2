use Rattle.merging.specs.Groupings.{IsLeft}
use Rattle.merging.proofs.plan.Plan.left.Given as goal

abbrev pub invariant-loop-index : goal.invariant-loop-index
invariant-loop-index l = IsLeft l.plan l.index
