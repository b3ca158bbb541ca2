use Rattle.std.proofs.Common.{subst}
use Rattle.topo.specs.OfMap.{IsOfSomeMap}
use Rattle.topo.proofs.topology.Topology.into_parts.Goals as goal

pub returns-clause-of_map : goal.returns-clause-of_map
returns-clause-of_map c = subst IsOfSomeMap c.self.view_is c.self.invariant
