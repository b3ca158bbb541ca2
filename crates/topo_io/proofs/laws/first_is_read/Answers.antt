use Rattle.std.proofs.Common.{sym, subst}
use Rattle.faults.specs.Fault.{pair_of}
use Rattle.reading.specs.Fault.{IsLeast}
use Rattle.reading.proofs.FaultListsLemmas.Order.{least_first}
use Rattle.topo_io.proofs.laws.first_is_read.Goals as goal

pub returns : goal.returns
returns c = λ bytes ps f is a least real. least_first ps (pair_of f) a (subst (λ qs. IsLeast qs (pair_of f)) (sym is) (least.least real))
