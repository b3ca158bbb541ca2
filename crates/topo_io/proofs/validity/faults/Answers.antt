use Rattle.std.proofs.Common.{sym, subst}
use Rattle.reading.specs.FaultLists.Ascending.{IsAscending}
use Rattle.reading.specs.FaultLists.Found.{pairs_of}
use Rattle.reading.proofs.FaultListsLemmas.Ascending.{ascending_here, ascending_none}
use Rattle.topo_io.proofs.AllFaults.{text_refused}
use Rattle.topo_io.proofs.validity.faults.Goals as goal

pub returns-in_ok-one_of-in-Err-clause-all : goal.returns-in_ok-one_of-in-Err-clause-all
returns-in_ok-one_of-in-Err-clause-all c = text_refused c.args.bytes.now c.in-Err.fault (pairs_of c.in_ok-one_of-in-Err.field-0.items) c.in-Err.ensures.err c.in_ok-one_of-in-Err.ensures.0 c.in_ok-one_of-in-Err.ensures.1

pub returns-in_ok-one_of-in-Err-clause-sorted : goal.returns-in_ok-one_of-in-Err-clause-sorted
returns-in_ok-one_of-in-Err-clause-sorted c = subst IsAscending (sym c.in_ok-one_of-in-Err.ensures.1.same) (ascending_here c.in-Err.fault.kind)

pub returns-then-branch-clause-sorted : goal.returns-then-branch-clause-sorted
returns-then-branch-clause-sorted c = subst (λ l. IsAscending (pairs_of l)) (sym c.new.ensures.items) ascending_none
