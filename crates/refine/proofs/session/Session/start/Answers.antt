use Rattle.std.proofs.Common.{◌∙◌}
use Rattle.refine.proofs.session.Session.start.Goals as goal

pub of_topology-shard-requires-clause-of_map : goal.of_topology-shard-requires-clause-of_map
of_topology-shard-requires-clause-of_map c = (c.new.result, c.in_ok-topology.ensures.of_map)

pub returns-clause-map : goal.returns-clause-map
returns-clause-map c = c.of_topology-shard.ensures.map c.new.result c.in_ok-topology.ensures.of_map ∙ c.new.ensures
