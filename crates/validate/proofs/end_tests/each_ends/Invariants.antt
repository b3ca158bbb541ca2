use Rattle.std.proofs.Common.{◌≡◌}
use Rattle.std.specs.List.{list_all}
use Rattle.validate.specs.EndTests.{each_ends, ends_are}
use Rattle.validate.proofs.end_tests.each_ends.Given as goal

abbrev pub invariant-loop-arc : goal.invariant-loop-arc
invariant-loop-arc l = list_all (ends_are l.fn.ends l.fn.sorted) l.arc-iterator ≡ each_ends l.fn.ends l.fn.sorted l.fn.table
