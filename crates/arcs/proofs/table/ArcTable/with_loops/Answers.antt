use Rattle.std.proofs.Common.{ap, map, ◌∙◌}
use Rattle.arcs.specs.Stored.{marked_positions}
use Rattle.arcs.specs.Table.{with_loops}
use Rattle.arcs.proofs.Marks.{all_means}
use Rattle.arcs.proofs.table.ArcTable.with_loops.Goals as goal

pub returns-clause-arcs : goal.returns-clause-arcs
returns-clause-arcs c =
    c.of.ensures ∙ ap (map marked_positions) c.as_slice.ensures ∙ all_means c.self.inside.arcs c.self.invariant.rising ∙ ap with_loops c.self.view_is
