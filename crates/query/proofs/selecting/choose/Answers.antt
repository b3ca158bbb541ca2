use Rattle.std.proofs.Common.{None, get_or, sym, subst}
use Rattle.std.proofs.lemmas.List.{get_or_default}
use Rattle.std.specs.Fn.{FnReturnsAtPair}
use Rattle.query.specs.Selecting.{ChosenBelow}
use Rattle.query.proofs.Choosing.{none_chosen, none_known, passed_over, taken}
use Rattle.query.proofs.selecting.choose.Goals as goal

pub loop-number-init : goal.loop-number-init
loop-number-init g c = (
  none_known (FnReturnsAtPair g.F.Fn c.args.filter.now) c.args.members.now c.new-known.result c.new-known.ensures.empty,
  subst (ChosenBelow (FnReturnsAtPair g.F.Fn c.args.filter.now) c.args.members.now c.args.spans.now 0) (sym c.new-chosen.ensures.items)
      (none_chosen (FnReturnsAtPair g.F.Fn c.args.filter.now) c.args.members.now c.args.spans.now),
)

pub loop-number-preserved-then-not-branch : goal.loop-number-preserved-then-not-branch
loop-number-preserved-then-not-branch g c = (
  c.in_ok-is_chosen.ensures.known,
  passed_over (FnReturnsAtPair g.F.Fn c.args.filter.now) c.args.members.now c.args.spans.now c.loop-number.number c.loop-number.chosen.items
      (get_or c.args.spans.now c.loop-number.number None) c.in_ok-is_chosen.field-0 c.loop-number-test.true
      (get_or_default c.args.spans.now c.loop-number.number None _ c.loop-number-test.true) c.in_ok-is_chosen.ensures.decided c.if-not-branch.true c.loop-number.invariant.1,
)

pub loop-number-preserved : goal.loop-number-preserved
loop-number-preserved g c = (
  c.in_ok-is_chosen.ensures.known,
  taken (FnReturnsAtPair g.F.Fn c.args.filter.now) c.args.members.now c.args.spans.now c.loop-number.number c.loop-number.chosen.items c.push.new.self.items
      (get_or c.args.spans.now c.loop-number.number None) c.in_ok-is_chosen.field-0 c.loop-number-test.true
      (get_or_default c.args.spans.now c.loop-number.number None _ c.loop-number-test.true) c.in_ok-is_chosen.ensures.decided c.if-not-branch.false c.in_ok-push.ensures.items
      c.loop-number.invariant.1,
)
