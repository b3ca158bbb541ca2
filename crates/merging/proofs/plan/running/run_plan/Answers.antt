use Rattle.std.proofs.Common.{sym, ◌∙◌, subst}
use Rattle.merging.specs.Leaves.{HasIndexes}
use Rattle.merging.proofs.PlanLemmas.{one_grid, no_first, no_indexes}
use Rattle.merging.proofs.LeafLemmas.{has_indexes}
use Rattle.merging.proofs.plan.running.run_plan.Goals as goal

pub returns-in_default-first-clause-faults : goal.returns-in_default-first-clause-faults
returns-in_default-first-clause-faults g c =
    absurd (no_indexes c.args.plan.now
    (subst (λ n. HasIndexes n c.args.plan.now) (no_first c.args.shards.now c.in_default-first.ensures.value) (has_indexes _ _ (sym c.in_default.ensures.first))))

pub join_leaves-requires-clause-indexes : goal.join_leaves-requires-clause-indexes
join_leaves-requires-clause-indexes g c = has_indexes _ _ (sym c.in_default.ensures.first)

pub join_leaves-requires-clause-one_grid : goal.join_leaves-requires-clause-one_grid
join_leaves-requires-clause-one_grid g c =
    λ k d lt. one_grid g.S.Shard.grid_of c.args.shards.now c.in-Some-first.first.now c.in-Some-first.ensures.value c.in_default-first_other_grid.ensures k d lt
    ∙ sym c.grid.ensures

pub returns-in-Ok-clause-grid : goal.returns-in-Ok-clause-grid
returns-in-Ok-clause-grid g c =
    λ k d lt. one_grid g.S.Shard.grid_of c.args.shards.now c.in-Some-first.first.now c.in-Some-first.ensures.value c.in_default-first_other_grid.ensures k d lt
    ∙ sym c.grid.ensures ∙ sym c.in-Ok.ensures.grid
