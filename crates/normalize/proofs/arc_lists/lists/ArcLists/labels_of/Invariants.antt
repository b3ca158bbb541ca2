use Rattle.std.proofs.Common.{◌≡◌, ◌++◌, drop}
use Rattle.normalize.specs.ArcLists.Lists.{labels_of}
use Rattle.normalize.proofs.arc_lists.lists.ArcLists.labels_of.Given as goal

abbrev pub invariant-loop-arc : goal.invariant-loop-arc
invariant-loop-arc l =
    l.labels.items ++ labels_of l.fn.self.summaries.items l.fn.self.labels.items (drop l.arc-index l.fn.used)
    ≡ labels_of l.fn.self.summaries.items l.fn.self.labels.items l.fn.used
