use Rattle.std.proofs.Common.{IfSome, subst}
use Rattle.topo_io.specs.Means.{IsTopologyOfParts}
use Rattle.topo_io.proofs.ValidTextsMeanAMap.{said_ids}
use Rattle.topo_io.proofs.topology.topology_or_fault.Goals as goal

pub topology_of_parts-requires : goal.topology_of_parts-requires
topology_of_parts-requires c = said_ids c.args.bytes.now c.args.parts.grid c.args.parts.arcs.items c.args.parts.layers.items c.requires

pub returns-in-Ok-Some-clause-means : goal.returns-in-Ok-Some-clause-means
returns-in-Ok-Some-clause-means c =
    let parts = c.args.parts in
    subst (λ o. IfSome o (IsTopologyOfParts parts.grid parts.arcs.items parts.layers.items)) c.in-Ok-Some.field-0-is c.in-Ok-Some.ensures.means c.args.bytes.now c.requires
