use Rattle.std.proofs.Common.{sym, subst}
use Rattle.topo.specs.OfMap.{IsOf}
use Rattle.refine.proofs.cut_shard.CutShard.copy.Goals as goal

pub of_topology-requires-clause-of_map : goal.of_topology-requires-clause-of_map
of_topology-requires-clause-of_map c =
    let m = c.args.self.now.map in
    (m, subst (IsOf m) (sym c.in_ok-topology.ensures) c.topology.ensures.of_map)

pub returns-clause-map : goal.returns-clause-map
returns-clause-map c =
    let m = c.args.self.now.map in
    c.of_topology.ensures.map m (subst (IsOf m) (sym c.in_ok-topology.ensures) c.topology.ensures.of_map)
