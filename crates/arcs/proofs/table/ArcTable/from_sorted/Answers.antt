use Rattle.std.proofs.Common.{map, ap, sym, ◌∙◌}
use Rattle.arcs.specs.Stored.{loops_of, positions_of, rises}
use Rattle.arcs.proofs.ArcsInOrder.{sorted_means, with_marks_positions, with_marks_loops}
use Rattle.arcs.proofs.Extents.{alone}
use Rattle.arcs.proofs.table.ArcTable.from_sorted.Goals as goal

pub returns-then-not-is_rising-clause-sorted : goal.returns-then-not-is_rising-clause-sorted
returns-then-not-is_rising-clause-sorted c =
    sorted_means c.args.arcs.items _ (sym c.if-not-is_rising.true ∙ c.is_rising.ensures ∙ ap rises c.deref.ensures.value)

pub invariant_of-result : goal.invariant_of-result
invariant_of-result c = alone _ (
    ap (λ w. rises (map positions_of w)) c.in_ok-arcs.ensures
    ∙ ap rises (with_marks_positions c.args.arcs.items c.args.free.now)
    ∙ sym (ap rises c.deref.ensures.value)
    ∙ sym c.is_rising.ensures
    ∙ c.if-not-is_rising.false)

pub returns-clause-table : goal.returns-clause-table
returns-clause-table c = λ i. record {
  arcs = (ap (map positions_of) c.in_ok-arcs.ensures ∙ with_marks_positions c.args.arcs.items c.args.free.now) i;
  loops = (ap loops_of c.in_ok-arcs.ensures ∙ with_marks_loops c.args.arcs.items c.args.free.now) i;
}

pub returns-clause-sorted : goal.returns-clause-sorted
returns-clause-sorted c =
    sorted_means c.args.arcs.items _ (sym c.if-not-is_rising.false ∙ c.is_rising.ensures ∙ ap rises c.deref.ensures.value)
