use Rattle.std.proofs.Common.{[], ◌∷◌, ◌++◌, refl, sym, ap, ◌∙◌, subst}
use Rattle.lines.proofs.Retracing.{all_gone, none_gone, step_new, step_recorded, IsGone}
use Rattle.lines.proofs.visited.ends_of_repeated.Goals.{then-go_on+in_ok-push+in_ok-push-2, else-go_on}
use Rattle.lines.proofs.visited.ends_of_repeated.Goals as goal

pub loop-next-init : goal.loop-next-init
loop-next-init c =
    subst (λ ends. IsGone c.in_ok-way.way ends c.args.positions.now c.in-Some.others.now) (sym c.new-ends.ensures.items)
    (none_gone c.in_ok-way.way c.args.positions.now c.in-Some.others.now c.in-Some.first.now c.in-Some.ensures.cases.0 c.in_ok-way.ensures.here
    c.in_ok-way.ensures.met)

pub loop-next-preserved : goal.loop-next-preserved
loop-next-preserved c = elim c.if-go_on.branch [
  | then-go_on+in_ok-push+in_ok-push-2 w ↦
      step_recorded c.loop-next.way c.go_on.new.self c.loop-next.ends.items c.if-go_on.ends.items c.args.positions.now c.in-Some.others.now
      c.loop-next.next-index c.loop-next.way.here c.next-item.result c.go_on.result c.loop-next-test.true c.next-item.is c.go_on.ensures refl
      (ap (λ v. v.items) w.ends-is ∙ w.in_ok-push-2.ensures.items ∙ ap (λ l. l ++ (c.next-item.result ∷ [])) w.in_ok-push.ensures.items)
      c.loop-next.invariant
  | else-go_on w ↦
      step_new c.loop-next.way c.go_on.new.self c.loop-next.ends.items c.if-go_on.ends.items c.args.positions.now c.in-Some.others.now
      c.loop-next.next-index c.next-item.result c.go_on.result c.loop-next-test.true c.next-item.is c.go_on.ensures w.if-go_on.false
      (ap (λ v. v.items) w.ends-is) c.loop-next.invariant
]

pub returns : goal.returns
returns c =
    all_gone c.loop-next.way c.loop-next.ends.items c.args.positions.now c.in-Some.others.now c.loop-next.next-index c.loop-next-test.false
    c.loop-next.invariant
