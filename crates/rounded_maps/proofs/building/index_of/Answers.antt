use Rattle.std.proofs.Common.{◌+◌, drop}
use Rattle.lines.proofs.Dropping.{drop_item}
use Rattle.rounded_maps.specs.Joined.{shapes_in}
use Rattle.rounded_maps.proofs.Vertices.{uses_step}
use Rattle.rounded_maps.proofs.building.index_of.Goals as goal

pub loop-map-preserved : goal.loop-map-preserved
loop-map-preserved c =
    let i = c.loop-map.map-index in
    let all = c.args.maps.now in
    let split = drop_item all i c.map-item.result c.loop-map-test.true c.map-item.is in
    uses_step shapes_in c.loop-map.vertices.uses.items _ _ c.loop-map.vertices.features _ c.map-item.result (drop i all) (drop (i + 1) all) split
    c.in_ok-add_vertices.ensures.uses c.in_ok-add_vertices.ensures.features c.loop-map.invariant
