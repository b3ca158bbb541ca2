use Rattle.lines.specs.PositionFilter.{may_hold}
use Rattle.lines.proofs.Segments.{none_means, if_by_code}
use Rattle.lines.proofs.trail.repeats_segment.Goals as goal

pub returns-then-is_empty : goal.returns-then-is_empty
returns-then-is_empty c =
    none_means c.args.positions.now c.in_ok-ends.ends.items _ c.is_empty.result c.in_ok-ends.ensures c.in_ok-ends.ends.ok.0 c.is_empty.ensures
    c.if-is_empty.true

pub returns : goal.returns
returns c =
    if_by_code c.args.positions.now c.in_ok-ends.ends.items c.deref.result.now (may_hold c.in_ok-bits.bits) _ _ _ _ c.in_ok-ends.ensures
    c.deref.ensures.value c.in_ok-bits.ensures c.in_ok-segments.ensures c.sort_unstable.ensures.permutation c.sort_unstable.ensures.sorted
    c.deref-2.ensures.value c.has_equal_neighbours.ensures
