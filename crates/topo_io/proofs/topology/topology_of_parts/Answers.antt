use Rattle.topo_io.proofs.ValidTextsMeanAMap.{whole_means}
use Rattle.topo_io.proofs.topology.topology_of_parts.Goals as goal

pub returns-in-Whole-clause-means : goal.returns-in-Whole-clause-means
returns-in-Whole-clause-means c = λ bytes said.
    whole_means bytes c.args.parts.grid c.args.parts.arcs.items c.args.parts.layers.items said c.in_ok-topology.field-0 c.in-Whole.topology
    c.in-Whole.is c.in_ok-topology.ensures.grid c.in_ok-topology.ensures.arcs c.in_ok-topology.ensures.layers c.in_ok-topology.ensures.stand c.in_ok-topology.ensures.of_map
