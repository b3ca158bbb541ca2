use Rattle.std.proofs.Common.{subst}
use Rattle.topo.specs.OfMap.{IsTopology, seen_parts}
use Rattle.topo.proofs.TopologyLaws.{is_computed}
use Rattle.topo.proofs.topology.Topology.build_owned.Goals as goal

pub from_parts-requires : goal.from_parts-requires
from_parts-requires c = (c.args.map, c.in_ok-parts.ensures)

pub returns-clause-topology : goal.returns-clause-topology
returns-clause-topology c =
    subst (λ g. IsTopology g c.args.map (seen_parts c.from_parts.result)) c.from_parts.ensures.grid
    (c.from_parts.ensures.of_map c.args.map c.in_ok-parts.ensures).topology

pub returns-clause-computed : goal.returns-clause-computed
returns-clause-computed c =
    is_computed c.args.grid.now c.args.map (seen_parts c.from_parts.result)
    (subst (λ g. IsTopology g c.args.map (seen_parts c.from_parts.result)) c.from_parts.ensures.grid
    (c.from_parts.ensures.of_map c.args.map c.in_ok-parts.ensures).topology)

pub returns-clause-segments : goal.returns-clause-segments
returns-clause-segments c = (c.from_parts.ensures.of_map c.args.map c.in_ok-parts.ensures).table.once

pub returns-clause-of_map : goal.returns-clause-of_map
returns-clause-of_map c = c.from_parts.ensures.of_map c.args.map c.in_ok-parts.ensures

pub returns-clause-few : goal.returns-clause-few
returns-clause-few c = c.from_parts.ensures.few
