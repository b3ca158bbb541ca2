use Rattle.std.proofs.Common.{◌≡◌}
use Rattle.std.specs.List.{list_all}
use Rattle.validate.specs.Noding.{arcs_are_valid, is_valid_arc}
use Rattle.validate.proofs.noding.arcs_are_valid.Given as goal

abbrev pub invariant-loop-arc : goal.invariant-loop-arc
invariant-loop-arc l = list_all is_valid_arc l.arc-iterator ≡ arcs_are_valid l.fn.table
