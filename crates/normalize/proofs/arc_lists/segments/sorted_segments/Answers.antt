use Rattle.std.proofs.Common.{◌++◌, ◌∙◌, ap, map}
use Rattle.lines.proofs.Dropping.{drop_item}
use Rattle.normalize.specs.ArcLists.Segments.{segment_in, segments_along}
use Rattle.normalize.proofs.ArcListsLemmas.Making.{segments_added, segments_sorted}
use Rattle.normalize.proofs.arc_lists.segments.sorted_segments.Goals as goal

pub loop-number-preserved : goal.loop-number-preserved
loop-number-preserved c =
    let arcs = c.args.arcs.now in
    let n = c.loop-number.number in
    let made = c.loop-number.segments.items in
    segments_added arcs made c.add_segments.new.segments.items n c.index-arcs-number.result (drop_item arcs n c.index-arcs-number.result c.loop-number-test.true c.index-arcs-number.is)
    (c.in_ok-add_segments.ensures ∙ ap (λ w. made ++ map (segment_in n) (segments_along w)) c.as_slice.ensures) c.loop-number.invariant

pub returns : goal.returns
returns c =
    segments_sorted c.args.arcs.now c.loop-number.segments.items c.sort_unstable.new.self.items c.loop-number.number
    c.loop-number-test.false c.loop-number.invariant c.sort_unstable.ensures.permutation c.sort_unstable.ensures.sorted
