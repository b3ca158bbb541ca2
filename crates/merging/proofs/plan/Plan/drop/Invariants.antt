use Rattle.merging.proofs.PlanSizes.{weight}
use Rattle.merging.proofs.plan.Plan.drop.Given as goal

abbrev pub decreases-loop-self : goal.decreases-loop-self
decreases-loop-self l = weight l.self
