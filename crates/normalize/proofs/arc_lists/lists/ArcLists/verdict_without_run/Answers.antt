use Rattle.std.proofs.Common.{sym, ◌∙◌}
use Rattle.normalize.proofs.ArcListsLemmas.RunningOn.{broken, empty_line, empty_ring}
use Rattle.normalize.proofs.arc_lists.lists.ArcLists.verdict_without_run.Goals as goal

pub returns-then-is_empty-clause-line : goal.returns-then-is_empty-clause-line
returns-then-is_empty-clause-line c = empty_line c.args.self.now.arcs.now c.args.used.now (sym c.is_empty.ensures ∙ c.if-is_empty.true)

pub returns-then-is_empty-clause-ring : goal.returns-then-is_empty-clause-ring
returns-then-is_empty-clause-ring c = empty_ring c.args.self.now.arcs.now c.args.used.now (sym c.is_empty.ensures ∙ c.if-is_empty.true)

pub returns-then-have_ends-clause-line : goal.returns-then-have_ends-clause-line
returns-then-have_ends-clause-line c =
    broken c.args.self.now.arcs.now c.args.used.now c.requires (sym c.is_empty.ensures ∙ c.if-is_empty.false) (sym c.have_ends.ensures ∙ c.if-have_ends.true)

pub returns-then-have_ends-clause-ring : goal.returns-then-have_ends-clause-ring
returns-then-have_ends-clause-ring c = returns-then-have_ends-clause-line c
