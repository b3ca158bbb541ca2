use Rattle.std.proofs.Common.{◌≡◌, ◌++◌, drop, map}
use Rattle.normalize.specs.ArcLists.Segments.{segment_in, segments_along}
use Rattle.normalize.proofs.ArcListsLemmas.Making.{segments_after}
use Rattle.normalize.proofs.arc_lists.segments.add_segments.Given as goal

abbrev pub invariant-loop-next : goal.invariant-loop-next
invariant-loop-next l =
    l.segments.items ++ map (segment_in l.fn.number) (segments_after l.here (drop l.next-index l.others))
    ≡ l.fn.segments.items ++ map (segment_in l.fn.number) (segments_along l.fn.arc)
