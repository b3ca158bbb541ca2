use Rattle.refine.proofs.cut_shard.CutShard.from_map.Goals as goal

pub of_topology-requires-clause-of_map : goal.of_topology-requires-clause-of_map
of_topology-requires-clause-of_map c = (c.args.map.now, c.in_ok-topology.ensures.of_map)

pub returns-clause-map : goal.returns-clause-map
returns-clause-map c = c.of_topology.ensures.map c.args.map.now c.in_ok-topology.ensures.of_map
