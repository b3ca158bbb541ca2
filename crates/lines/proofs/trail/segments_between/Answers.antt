use Rattle.std.proofs.Common.{ap, ◌∙◌}
use Rattle.lines.specs.Visited.{joins}
use Rattle.lines.specs.PositionFilter.{may_hold}
use Rattle.lines.proofs.Segments.{segment_kept, segment_left_out}
use Rattle.lines.proofs.trail.segments_between.Goals.{then-may_join+in_ok-push, else-may_join}
use Rattle.lines.proofs.trail.segments_between.Goals as goal

pub loop-next-preserved : goal.loop-next-preserved
loop-next-preserved c = elim c.if-may_join.branch [
  | then-may_join+in_ok-push w ↦
      segment_kept (joins (may_hold c.args.ends.now)) c.loop-next.made.items c.if-may_join.made.items _ c.of-segment.result c.loop-next.here
      c.next-item.result c.in-Some.others.now c.loop-next.next-index c.may_join.result c.loop-next-test.true c.next-item.is c.of-segment.ensures
      c.may_join.ensures w.if-may_join.true (ap (λ v. v.items) w.made-is ∙ w.in_ok-push.ensures.items) c.loop-next.invariant
  | else-may_join w ↦
      segment_left_out (joins (may_hold c.args.ends.now)) c.loop-next.made.items c.if-may_join.made.items _ c.of-segment.result c.loop-next.here
      c.next-item.result c.in-Some.others.now c.loop-next.next-index c.may_join.result c.loop-next-test.true c.next-item.is c.of-segment.ensures
      c.may_join.ensures w.if-may_join.false (ap (λ v. v.items) w.made-is) c.loop-next.invariant
]
