use Rattle.std.proofs.Common.{◌≡◌, ◌++◌}
use Rattle.theory.specs.Lists.{gathered}
use Rattle.validate.specs.ArcEnds.{both_ends}
use Rattle.validate.proofs.arc_ends.all_ends.Given as goal

abbrev pub invariant-loop-arc : goal.invariant-loop-arc
invariant-loop-arc l = l.ends.items ++ gathered both_ends l.arc-iterator ≡ gathered both_ends l.fn.table.arcs
