use Rattle.theory.proofs.ProvedLaws.{one_topology}
use Rattle.theory.proofs.laws.one_topology.Goals as goal

pub returns : goal.returns
returns c d = one_topology
