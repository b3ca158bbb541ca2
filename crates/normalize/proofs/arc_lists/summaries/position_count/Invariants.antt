use Rattle.std.proofs.Common.{◌≡◌, ◌≤◌, ◌+◌, drop, length}
use Rattle.lines.specs.Reading.{collapsed}
use Rattle.lines.specs.Turned.{position_cmp}
use Rattle.normalize.proofs.ArcListsLemmas.Collapsing.{after}
use Rattle.normalize.proofs.arc_lists.summaries.position_count.Given as goal

abbrev pub invariant-loop-next : goal.invariant-loop-next
invariant-loop-next l = record {
  within : l.count ≤ l.next-index + 1;
  left : l.count + length (after l.here (drop l.next-index l.others)) ≡ length (collapsed position_cmp l.fn.positions);
}
