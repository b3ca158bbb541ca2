use Rattle.std.proofs.Common.{◌∙◌, sym, ap, arith}
use Rattle.lines.specs.Turned.{position_cmp}
use Rattle.lines.specs.Reading.{is_closed, repeats}
use Rattle.lines.proofs.Codes.{empty, not_empty, ring_empty, ring_open, ring_short, ring_again, ring_good}
use Rattle.lines.proofs.ring.Ring.from_closed.Goals as goal

pub returns-then-is_empty-clause-fault : goal.returns-then-is_empty-clause-fault
returns-then-is_empty-clause-fault c = λ _.
    ring_empty c.args.closed.items c.collapse.new.positions.items c.collapse.ensures (sym c.collapse.new.positions.ok.0 ∙ empty _ c.if-is_empty.ensures)

pub returns-then-not-is_closed-clause-fault : goal.returns-then-not-is_closed-clause-fault
returns-then-not-is_closed-clause-fault c = λ _.
    ring_open c.args.closed.items c.collapse.new.positions.items c.collapse.ensures
    (omega (arith, c.collapse.new.positions.ok.0, not_empty _ c.if-is_empty.ensures))
    (c.if-not-is_closed.ensures ∙ ap (is_closed position_cmp) c.deref.ensures.value)

pub returns-then-len-lt4-clause-fault : goal.returns-then-len-lt4-clause-fault
returns-then-len-lt4-clause-fault c = λ _.
    ring_short c.args.closed.items c.collapse.new.positions.items c.collapse.ensures
    (omega (arith, c.collapse.new.positions.ok.0, not_empty _ c.if-is_empty.ensures))
    (c.if-not-is_closed.ensures ∙ ap (is_closed position_cmp) c.deref.ensures.value) (omega (arith, c.collapse.new.positions.ok.0))

pub returns-then-branch-clause-fault : goal.returns-then-branch-clause-fault
returns-then-branch-clause-fault c = λ _.
    ring_again c.args.closed.items c.collapse.new.positions.items c.collapse.ensures
    (c.if-not-is_closed.ensures ∙ ap (is_closed position_cmp) c.deref.ensures.value) (omega (arith, c.collapse.new.positions.ok.0))
    (sym c.if-branch.true ∙ c.in_ok-repeats_segment.ensures ∙ ap (repeats position_cmp) c.deref-2.ensures.value)

pub returns-clause-ok : goal.returns-clause-ok
returns-clause-ok c =
    ring_good c.args.closed.items c.collapse.new.positions.items c.collapse.ensures
    (c.if-not-is_closed.ensures ∙ ap (is_closed position_cmp) c.deref.ensures.value) (omega (arith, c.collapse.new.positions.ok.0))
    (sym c.if-branch.false ∙ c.in_ok-repeats_segment.ensures ∙ ap (repeats position_cmp) c.deref-2.ensures.value)

pub turn_to_least-requires : goal.turn_to_least-requires
turn_to_least-requires c = (
  c.args.closed.items,
  c.collapse.ensures,
  ring_good c.args.closed.items c.collapse.new.positions.items c.collapse.ensures
      (c.if-not-is_closed.ensures ∙ ap (is_closed position_cmp) c.deref.ensures.value) (omega (arith, c.collapse.new.positions.ok.0))
      (sym c.if-branch.false ∙ c.in_ok-repeats_segment.ensures ∙ ap (repeats position_cmp) c.deref-2.ensures.value),
)

pub returns-clause-ring : goal.returns-clause-ring
returns-clause-ring c =
    c.turn_to_least.ensures c.args.closed.items c.collapse.ensures
    (ring_good c.args.closed.items c.collapse.new.positions.items c.collapse.ensures
    (c.if-not-is_closed.ensures ∙ ap (is_closed position_cmp) c.deref.ensures.value) (omega (arith, c.collapse.new.positions.ok.0))
    (sym c.if-branch.false ∙ c.in_ok-repeats_segment.ensures ∙ ap (repeats position_cmp) c.deref-2.ensures.value))
