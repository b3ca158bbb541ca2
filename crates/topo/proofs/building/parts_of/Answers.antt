use Rattle.std.proofs.Common.{◌∙◌}
use Rattle.chains.specs.Seen.{geometry_of}
use Rattle.topo.specs.Taken.{parted, entries_taken}
use Rattle.std.specs.FinMap.{entries}
use Rattle.topo.proofs.BuiltParts.{built_parts}
use Rattle.topo.proofs.TakenInOrder.{taken_built}
use Rattle.topo.proofs.building.parts_of.Goals as goal

pub returns : goal.returns
returns c =
    let m = c.args.map in
    let cut = c.in_ok-pieces.ensures in
    let pieces = c.in_ok-pieces.field-0.pieces.items in
    let counts = c.in_ok-pieces.field-0.counts.items in
    let refs = c.in_ok-table.refs.items in
    built_parts m cut.junctions pieces c.in_ok-table.table c.in_ok-layers.layers.items cut.index cut.pieces
    c.in_ok-table.ensures.arcs (c.in_ok-table.ensures.of_map (geometry_of m))
    (c.in_ok-layers.ensures
    ∙ (λ i. entries_taken (entries m) (parted (c.deref-2.ensures.value i) (c.deref.ensures.value i)))
    ∙ taken_built m cut.junctions c.in_ok-table.table.arcs pieces counts refs cut.pieces cut.counts c.in_ok-table.ensures.refs)
