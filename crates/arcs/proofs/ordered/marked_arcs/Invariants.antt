use Rattle.std.proofs.Common.{◌≡◌, ◌++◌}
use Rattle.arcs.specs.Stored.{with_marks}
use Rattle.arcs.proofs.ordered.marked_arcs.Given as goal

abbrev pub invariant-loop-positions : goal.invariant-loop-positions
invariant-loop-positions l = l.made ++ with_marks l.positions-iterator.rest.items l.left ≡ with_marks l.fn.arcs.items l.fn.marks
