use Rattle.std.proofs.Common.{◌≡◌, drop, false, replicate}
use Rattle.query.specs.Joining.{with_marks}
use Rattle.query.proofs.joined.marks_of.Given as goal

abbrev pub invariant-loop-number : goal.invariant-loop-number
invariant-loop-number l = with_marks l.marks.items (drop l.number-index l.fn.chosen) ≡ with_marks (replicate l.fn.count false) l.fn.chosen
