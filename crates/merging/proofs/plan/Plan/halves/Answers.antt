use Rattle.merging.proofs.GroupingLemmas.{halves_leaves}
use Rattle.merging.proofs.plan.Plan.halves.Goals as goal

pub returns-clause-leaves : goal.returns-clause-leaves
returns-clause-leaves c = halves_leaves _ _ _ c.in_ok-halves_from.ensures
