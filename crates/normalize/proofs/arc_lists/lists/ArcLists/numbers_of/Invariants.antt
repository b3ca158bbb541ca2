use Rattle.std.proofs.Common.{◌≡◌, ◌++◌, drop}
use Rattle.normalize.specs.ArcLists.Lists.{numbers_of}
use Rattle.normalize.proofs.arc_lists.lists.ArcLists.numbers_of.Given as goal

abbrev pub invariant-loop-arc : goal.invariant-loop-arc
invariant-loop-arc l = l.numbers.items ++ numbers_of l.fn.self.summaries.items (drop l.arc-index l.fn.used) ≡ numbers_of l.fn.self.summaries.items l.fn.used
