use Rattle.std.proofs.Common.{◌≡◌, ◌≤◌, ◌+◌, drop, min}
use Rattle.normalize.specs.ArcLists.Lists.{segment_count}
use Rattle.normalize.proofs.arc_lists.lists.ArcLists.segment_count.Given as goal

abbrev pub invariant-loop-arc : goal.invariant-loop-arc
invariant-loop-arc l = record {
  within : l.count ≤ 18446744073709551615;
  sum : min (l.count + segment_count l.fn.self.summaries.items (drop l.arc-index l.fn.used)) 18446744073709551615
      ≡ min (segment_count l.fn.self.summaries.items l.fn.used) 18446744073709551615;
}
