use Rattle.normalize.specs.ArcLists.Summaries.{IsSummary}
use Rattle.normalize.proofs.Numbered.{MadeSoFar}
use Rattle.normalize.proofs.arc_lists.summaries.summaries_of.Given as goal

abbrev pub invariant-loop-arc : goal.invariant-loop-arc
invariant-loop-arc l = MadeSoFar IsSummary l.fn.arcs l.summaries.items l.arc-index
