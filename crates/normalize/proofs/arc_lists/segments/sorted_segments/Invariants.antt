use Rattle.normalize.proofs.ArcListsLemmas.Making.{HaveSegmentsBefore}
use Rattle.normalize.proofs.arc_lists.segments.sorted_segments.Given as goal

abbrev pub invariant-loop-number : goal.invariant-loop-number
invariant-loop-number l = HaveSegmentsBefore l.fn.arcs l.segments.items l.number
