use Rattle.refine.proofs.session.Session.apply.Goals as goal

pub of_topology-requires-clause-of_map : goal.of_topology-requires-clause-of_map
of_topology-requires-clause-of_map c =
    let (n, _, of_map) = c.in_ok-topology.ensures.of_map c.self.inside.shard.map c.topology.ensures.of_map in
    (n, of_map)
