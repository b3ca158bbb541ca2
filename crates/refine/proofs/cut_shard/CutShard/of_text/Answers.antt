use Rattle.std.proofs.Common.{sym, subst}
use Rattle.topo_io.specs.Means.{Means}
use Rattle.refine.proofs.cut_shard.CutShard.of_text.Goals as goal

pub of_topology-requires-clause-of_map : goal.of_topology-requires-clause-of_map
of_topology-requires-clause-of_map c =
    let (m, means, of_map) = c.in_ok-topology.ensures.means in
    (m, of_map)

pub returns-clause-means : goal.returns-clause-means
returns-clause-means c =
    let (m, means, of_map) = c.in_ok-topology.ensures.means in
    subst (λ g. Means c.args.bytes.now g c.of_topology.result.map) (sym c.of_topology.ensures.grid)
    (subst (Means c.args.bytes.now c.in_ok-topology.topology.grid) (sym (c.of_topology.ensures.map m of_map)) means)
