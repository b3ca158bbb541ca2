use Rattle.std.proofs.Common.{◌≡◌, ◌++◌, drop}
use Rattle.arcs.proofs.stored.copies.Given as goal

abbrev pub invariant-loop-arc : goal.invariant-loop-arc
invariant-loop-arc l = l.made ++ drop l.arc-index l.arcs ≡ l.arcs
