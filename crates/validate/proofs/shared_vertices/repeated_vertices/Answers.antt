use Rattle.std.proofs.Common.{◌≡◌, ◌∙◌, ap, subst, sym, true}
use Rattle.lines.specs.PositionFilter.{may_hold}
use Rattle.lines.specs.Holding.{Keeps}
use Rattle.lines.specs.declared.position_filter.PositionFilter.{PositionFilter}
use Rattle.validate.proofs.ComingAgain.{all_met, one_again, one_new}
use Rattle.validate.proofs.shared_vertices.repeated_vertices.Goals.{then-may_hold+in_ok-push, else-may_hold}
use Rattle.validate.proofs.shared_vertices.repeated_vertices.Goals as goal

pub loop-vertex-preserved : goal.loop-vertex-preserved
loop-vertex-preserved c = elim c.if-may_hold.branch [
  | then-may_hold+in_ok-push w ↦
      one_again c.loop-vertex.met c.if-may_hold.met c.loop-vertex.again.items c.if-may_hold.again.items c.args.vertices.now c.loop-vertex.vertex-index
      c.vertex-item.result c.loop-vertex-test.true c.vertex-item.is (sym w.if-may_hold.ensures) w.met-is (ap (λ v. v.items) w.again-is ∙ w.in_ok-push.ensures.items) c.loop-vertex.invariant
  | else-may_hold w ↦
      one_new c.loop-vertex.met c.if-may_hold.met c.loop-vertex.again.items c.if-may_hold.again.items c.args.vertices.now c.loop-vertex.vertex-index
      c.vertex-item.result c.loop-vertex-test.true c.vertex-item.is (sym w.if-may_hold.ensures)
      (subst (λ (m : PositionFilter). Keeps (may_hold c.loop-vertex.met) (may_hold m) × (may_hold m c.vertex-item.result ≡ true)) (sym w.met-is) w.mark.ensures) (ap (λ v. v.items) w.again-is) c.loop-vertex.invariant
]

pub returns : goal.returns
returns c =
    all_met c.loop-vertex.met c.loop-vertex.again.items c.args.vertices.now c.loop-vertex.vertex-index c.loop-vertex-test.false c.loop-vertex.invariant
