use Rattle.std.proofs.Common.{sym, ap, ◌∙◌, ◌&&◌, ◌+◌, arith}
use Rattle.arcs.specs.Among.{among}
use Rattle.lines.proofs.Dropping.{item_at}
use Rattle.chains.proofs.ArcParts.{goes, goes_not, part_stop, part_pass, part_last}
use Rattle.chains.proofs.cutting.cut_inside.Goals as goal
use Rattle.chains.proofs.cutting.cut_inside.Goals.{then-i-line+then-is_stop+in_ok-part+in_ok-push, else-i-line, else-i-line-via-then-i-line+else-is_stop, else-i-line-via-else-i-line}

pub loop-i-preserved : goal.loop-i-preserved
loop-i-preserved g c = elim c.if-i-line.branch [
  | then-i-line+then-is_stop+in_ok-part+in_ok-push w ↦ record {
    before = omega (arith, w.begin-is);
    within = omega (arith, w.begin-is, c.loop-i-test.true);
    pieces = part_stop (among (g.S.Stops.at c.args.stops.now)) c.args.line.now c.loop-i.begin c.loop-i.i c.if-i-line.begin w.index-line-i.result c.loop-i.pieces.items
        w.in_ok-part.field-0 c.if-i-line.pieces.items _ c.loop-i.invariant.before
        (item_at c.args.line.now c.loop-i.i w.index-line-i.result c.loop-i-test.true w.index-line-i.is)
        (goes c.args.line.now (c.loop-i.i + 1) w.if-i-line.true)
        (sym w.is_stop.ensures ∙ w.if-is_stop.true) w.in_ok-part.ensures w.begin-is
        (ap (λ v. v.items) w.pieces-is ∙ w.in_ok-push.ensures.items) c.loop-i.invariant.pieces;
  }
  | else-i-line w ↦ elim w.else-i-line.branch [
    | else-i-line-via-then-i-line+else-is_stop k ↦ record {
      before = omega (arith, w.begin-is, c.loop-i.invariant.before);
      within = omega (arith, w.begin-is, c.loop-i.invariant.within);
      pieces = part_pass (among (g.S.Stops.at c.args.stops.now)) c.args.line.now c.loop-i.begin c.loop-i.i c.if-i-line.begin k.index-line-i.result c.loop-i.pieces.items
          c.if-i-line.pieces.items _ c.loop-i.invariant.before
          (item_at c.args.line.now c.loop-i.i k.index-line-i.result c.loop-i-test.true k.index-line-i.is)
          (λ n. goes c.args.line.now (c.loop-i.i + 1) k.if-i-line.true n && (sym k.is_stop.ensures ∙ k.if-is_stop.false) n) w.begin-is
          (ap (λ v. v.items) w.pieces-is) c.loop-i.invariant.pieces;
    }
    | else-i-line-via-else-i-line k ↦ record {
      before = omega (arith, w.begin-is, c.loop-i.invariant.before);
      within = omega (arith, w.begin-is, c.loop-i.invariant.within);
      pieces = part_last (among (g.S.Stops.at c.args.stops.now)) c.args.line.now c.loop-i.begin c.loop-i.i c.if-i-line.begin c.loop-i.pieces.items
          c.if-i-line.pieces.items _ c.loop-i.invariant.before c.loop-i-test.true
          (goes_not c.args.line.now (c.loop-i.i + 1) k.if-i-line.false) w.begin-is
          (ap (λ v. v.items) w.pieces-is) c.loop-i.invariant.pieces;
    }
  ]
]
