use Rattle.std.proofs.Common.{◌≡◌, ◌++◌}
use Rattle.arcs.specs.Table.{with_loops}
use Rattle.theory.specs.Lists.{gathered}
use Rattle.validate.specs.Noding.{arc_inside}
use Rattle.validate.proofs.noding.all_inside.Given as goal

abbrev pub invariant-loop-arc : goal.invariant-loop-arc
invariant-loop-arc l = l.inside.items ++ gathered arc_inside l.arc-iterator ≡ gathered arc_inside (with_loops l.fn.table)
