use Rattle.std.proofs.Common.{◌≡◌, ◌++◌}
use Rattle.reading.proofs.fault_lists.found.join.Given as goal

abbrev pub invariant-loop-fault : goal.invariant-loop-fault
invariant-loop-fault l = (l.found.items ++ l.fault-iterator.rest.items) ≡ (l.fn.first.items ++ l.fn.others.items)
