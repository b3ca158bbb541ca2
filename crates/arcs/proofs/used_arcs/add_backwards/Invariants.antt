use Rattle.std.proofs.Common.{◌≡◌, ◌++◌, length}
use Rattle.theory.specs.ArcNumbers.{backwards}
use Rattle.arcs.proofs.used_arcs.add_backwards.Given as goal

abbrev pub invariant-loop-last : goal.invariant-loop-last
invariant-loop-last l = l.refs.items ++ backwards l.left ≡ l.fn.refs.items ++ backwards l.fn.used

abbrev pub decreases-loop-last : goal.decreases-loop-last
decreases-loop-last l = length l.left
