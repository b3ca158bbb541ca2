use Rattle.std.proofs.Common.{◌≡◌, ◌++◌, drop}
use Rattle.normalize.specs.ArcLists.Lists.{kept}
use Rattle.normalize.proofs.arc_lists.lists.ArcLists.without_points_of.Given as goal

abbrev pub invariant-loop-arc : goal.invariant-loop-arc
invariant-loop-arc l = l.kept.items ++ kept l.fn.self.summaries.items (drop l.arc-index l.fn.used) ≡ kept l.fn.self.summaries.items l.fn.used
