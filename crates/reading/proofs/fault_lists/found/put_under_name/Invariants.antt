use Rattle.std.proofs.Common.{◌≡◌, ◌++◌}
use Rattle.faults.specs.Path.{name}
use Rattle.reading.specs.Fault.{under}
use Rattle.reading.specs.FaultLists.Found.{pairs_of}
use Rattle.reading.proofs.fault_lists.found.put_under_name.Given as goal

abbrev pub invariant-loop-fault : goal.invariant-loop-fault
invariant-loop-fault l =
    (pairs_of l.found.items ++ under (name l.member) (pairs_of l.fault-iterator.rest.items))
    ≡ (pairs_of l.fn.found.items ++ under (name l.member) (pairs_of l.fn.part.items))
