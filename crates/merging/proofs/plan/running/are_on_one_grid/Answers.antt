use Rattle.std.proofs.Common.{is_some, ap, sym, ◌∙◌}
use Rattle.merging.proofs.PlanLemmas.{on_one_grid}
use Rattle.merging.proofs.plan.running.are_on_one_grid.Goals as goal

pub returns : goal.returns
returns g c = on_one_grid g.S.Shard.grid_of c.args.shards.now c.is_none.result (ap is_some (sym c.first_other_grid.ensures) ∙ c.is_none.ensures)
