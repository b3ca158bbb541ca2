use Rattle.std.proofs.Common.{◌≡◌, ◌++◌, drop, map}
use Rattle.theory.specs.ArcNumbers.{flipped}
use Rattle.split_heal.proofs.arc_run.read_backwards.Given as goal

abbrev pub invariant-loop-used : goal.invariant-loop-used
invariant-loop-used l = l.refs.items ++ map flipped (drop l.used-index l.fn.arcs) ≡ map flipped l.fn.arcs
