use Rattle.std.proofs.Common.{refl, sym, ap, ◌∙◌, subst}
use Rattle.theory.specs.LinesAndRings.{IsLine}
use Rattle.lines.specs.Turned.{position_cmp}
use Rattle.lines.specs.Reading.{repeats}
use Rattle.lines.proofs.Codes.{is_short, line_says, line_is}
use Rattle.lines.proofs.line.Line.from_positions.Goals as goal

pub returns-then-is_too_short-clause-fault : goal.returns-then-is_too_short-clause-fault
returns-then-is_too_short-clause-fault c = λ _.
    let l = c.collapse.new.positions.items in
    line_says c.args.positions.items l c.collapse.ensures _ (repeats position_cmp l) (sym c.if-is_too_short.true ∙ c.is_too_short.ensures ∙ ap is_short c.deref.ensures.value) refl

pub returns-then-branch-clause-fault : goal.returns-then-branch-clause-fault
returns-then-branch-clause-fault c = λ _.
    line_says c.args.positions.items c.collapse.new.positions.items c.collapse.ensures _ _
    (sym c.if-is_too_short.false ∙ c.is_too_short.ensures ∙ ap is_short c.deref.ensures.value)
    (sym c.if-branch.true ∙ c.in_ok-repeats_segment.ensures ∙ ap (repeats position_cmp) c.deref-2.ensures.value)

pub invariant_of-result : goal.invariant_of-result
invariant_of-result c = record {
  line = subst IsLine (sym c.from_vec.ensures) (line_is c.args.positions.items c.collapse.new.positions.items c.collapse.ensures
      (line_says c.args.positions.items c.collapse.new.positions.items c.collapse.ensures _ _
      (sym c.if-is_too_short.false ∙ c.is_too_short.ensures ∙ ap is_short c.deref.ensures.value)
      (sym c.if-branch.false ∙ c.in_ok-repeats_segment.ensures ∙ ap (repeats position_cmp) c.deref-2.ensures.value)));
}

pub returns-clause-ok : goal.returns-clause-ok
returns-clause-ok c =
    line_says c.args.positions.items c.collapse.new.positions.items c.collapse.ensures _ _
    (sym c.if-is_too_short.false ∙ c.is_too_short.ensures ∙ ap is_short c.deref.ensures.value)
    (sym c.if-branch.false ∙ c.in_ok-repeats_segment.ensures ∙ ap (repeats position_cmp) c.deref-2.ensures.value)
