use Rattle.std.proofs.Common.{◌∙◌}
use Rattle.shapes.specs.Union.{union}
use Rattle.refine.proofs.cut.join_shards_owned.Goals as goal

pub of_topology-requires-clause-of_map : goal.of_topology-requires-clause-of_map
of_topology-requires-clause-of_map c =
    let m = c.left.inside.of_map.0 in
    let n = c.right.inside.of_map.0 in
    (union m n, c.in_ok-topology.ensures.of_map m n c.left.invariant.of_map c.right.invariant.of_map)

pub returns-clause-map : goal.returns-clause-map
returns-clause-map c =
    let m = c.left.inside.of_map.0 in
    let n = c.right.inside.of_map.0 in
    c.of_topology.ensures.map (union m n) (c.in_ok-topology.ensures.of_map m n c.left.invariant.of_map c.right.invariant.of_map)
    ∙ (λ i. union (c.left.view_is i).map (c.right.view_is i).map)
