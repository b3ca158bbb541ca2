use Rattle.std.proofs.Common.{◌≡◌, drop, false}
use Rattle.arcs.specs.ArcMarks.{marks_set}
use Rattle.arcs.proofs.arc_marks.ArcMarks.clear_each.Given as goal

abbrev pub invariant-loop-used : goal.invariant-loop-used
invariant-loop-used l = marks_set false l.self (drop l.used-index l.fn.refs) ≡ marks_set false l.fn.self l.fn.refs
