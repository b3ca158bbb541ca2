use Rattle.shapes.specs.Union.{union}
use Rattle.refine.proofs.cut.join_shards.Goals as goal

pub of_topology-requires-clause-of_map : goal.of_topology-requires-clause-of_map
of_topology-requires-clause-of_map c =
    let m = c.args.left.now.map in
    let n = c.args.right.now.map in
    (union m n, c.in_ok-topology.ensures.of_map m n c.topology.ensures.of_map c.topology-2.ensures.of_map)

pub returns-clause-map : goal.returns-clause-map
returns-clause-map c =
    let m = c.args.left.now.map in
    let n = c.args.right.now.map in
    c.of_topology.ensures.map (union m n) (c.in_ok-topology.ensures.of_map m n c.topology.ensures.of_map c.topology-2.ensures.of_map)
