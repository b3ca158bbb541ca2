use Rattle.std.proofs.Common.{◌≡◌, cond, drop, false, true}
use Rattle.arcs.specs.ArcMarks.{each_unmarked, marks_set}
use Rattle.arcs.proofs.arc_marks.ArcMarks.set_each.Given as goal

abbrev pub invariant-loop-used : goal.invariant-loop-used
invariant-loop-used l =
    (cond l.unset (each_unmarked l.self (drop l.used-index l.fn.refs)) false ≡ each_unmarked l.fn.self l.fn.refs)
    × (marks_set true l.self (drop l.used-index l.fn.refs) ≡ marks_set true l.fn.self l.fn.refs)
