use Rattle.std.proofs.Common.{ap, sym, ◌∙◌}
use Rattle.arcs.specs.Table.{free_at}
use Rattle.arcs.proofs.Marks.{free_means}
use Rattle.arcs.proofs.table.ArcTable.is_free.Goals as goal

pub returns-in-Some : goal.returns-in-Some
returns-in-Some c =
    free_means c.self.inside.arcs c.self.invariant.rising c.args.number c.in-Some.arc.now (sym c.in-Some.ensures)
    ∙ ap (λ t. free_at t c.args.number) c.self.view_is
