use Rattle.std.proofs.Common.{◌≡◌, ◌++◌, ◌+◌, ◌∙◌, ap, drop, map, subst, sym}
use Rattle.normalize.specs.ArcLists.Segments.{segment_in, segments_along}
use Rattle.normalize.proofs.ArcListsLemmas.Making.{segment_passed, segment_pushed, segments_after, segments_first}
use Rattle.normalize.proofs.arc_lists.segments.add_segments.Goals.{then-ne+in_ok-push, else-ne}
use Rattle.normalize.proofs.arc_lists.segments.add_segments.Goals as goal

pub loop-next-init : goal.loop-next-init
loop-next-init c =
    ap (λ w. c.args.segments.now.items ++ map (segment_in c.args.number) w) (sym (segments_first c.in-Some.first.now c.in-Some.others.now c.args.arc.now c.in-Some.ensures.cases.0))

pub loop-next-preserved : goal.loop-next-preserved
loop-next-preserved c =
    let n = c.args.number in
    let whole = c.args.segments.now.items ++ map (segment_in n) (segments_along c.args.arc.now) in
    let i = c.loop-next.next-index in
    elim c.if-ne.branch [
      | then-ne+in_ok-push w ↦
          subst (λ z. c.if-ne.segments.items ++ map (segment_in n) (segments_after z (drop (i + 1) c.in-Some.others.now)) ≡ whole) (sym w.here-is)
          (segment_pushed n c.loop-next.segments.items c.if-ne.segments.items whole c.loop-next.here c.next-item.result c.in-Some.others.now i c.loop-next-test.true
          c.next-item.is c.loop-next.invariant c.ne.result w.of.result c.ne.ensures w.if-ne.true w.of.ensures (ap (λ v. v.items) w.segments-is ∙ w.in_ok-push.ensures.items))
      | else-ne w ↦
          subst (λ z. c.if-ne.segments.items ++ map (segment_in n) (segments_after z (drop (i + 1) c.in-Some.others.now)) ≡ whole) (sym w.here-is)
          (segment_passed n c.loop-next.segments.items c.if-ne.segments.items whole c.loop-next.here c.next-item.result c.in-Some.others.now i c.loop-next-test.true
          c.next-item.is c.loop-next.invariant c.ne.result c.ne.ensures w.if-ne.false (ap (λ v. v.items) w.segments-is))
    ]
