use Rattle.std.proofs.Common.{◌≡◌, ◌++◌}
use Rattle.faults.specs.Path.{index}
use Rattle.reading.specs.Fault.{under}
use Rattle.reading.specs.FaultLists.Found.{pairs_of}
use Rattle.reading.proofs.fault_lists.found.put_under_index.Given as goal

abbrev pub invariant-loop-fault : goal.invariant-loop-fault
invariant-loop-fault l =
    (pairs_of l.found.items ++ under (index l.index) (pairs_of l.fault-iterator.rest.items))
    ≡ (pairs_of l.fn.found.items ++ under (index l.index) (pairs_of l.fn.part.items))
