use Rattle.merging.proofs.plan.grouping.+halves_from.Given as goal

abbrev pub decreases-halves_from : goal.decreases-halves_from
decreases-halves_from l = l.count
