use Rattle.std.proofs.Common.{map, refl}
use Rattle.shapes.specs.Maps.{features_at}
use Rattle.shapes.specs.Parts.{spelled_text}
use Rattle.shapes.specs.Sets as set
use Rattle.lines.proofs.Dropping.{item_at}
use Rattle.theory.specs.Lists.{gathered}
use Rattle.theory.proofs.ListsOfLists.{get_has}
use Rattle.topo.proofs.Stitched.{geometries_of}
use Rattle.query.specs.Members.{held, layer_pairs}
use Rattle.query.proofs.Holding.{all_gathered, layers_step, members_by, scope_layers, scope_pairs}
use Rattle.query.proofs.members.members_of.Goals as goal

pub add_layer-requires : goal.add_layer-requires
add_layer-requires c =
    let (m, of) = c.requires in
    let ls = c.in_ok-layers.layers.now in
    let l = c.layer-item.result in
    let there = get_has ls c.loop-layer.layer-index l (item_at ls c.loop-layer.layer-index l c.loop-layer-test.true c.layer-item.is) in (
      set.items (features_at m (spelled_text l.name)),
      geometries_of m c.args.topology.now (spelled_text l.name) c.geometries.result.now of
          (l, scope_layers c.args.topology.now _ ls c.in_ok-layers.ensures.layers l there, refl, c.geometries.ensures),
    )

pub loop-layer-preserved : goal.loop-layer-preserved
loop-layer-preserved c = λ m of.
    let ls = c.in_ok-layers.layers.now in
    layers_step m c.args.topology.now of ls (scope_layers c.args.topology.now _ ls c.in_ok-layers.ensures.layers) c.loop-layer.layer-index c.layer-item.result
    c.geometries.result.now c.geometries.ensures c.loop-layer.members.items c.add_layer.new.members.items _ c.loop-layer-test.true c.layer-item.is
    c.in_ok-add_layer.ensures (c.loop-layer.invariant m of)

pub returns-clause-members : goal.returns-clause-members
returns-clause-members c = λ m of.
    let ls = c.in_ok-layers.layers.now in
    members_by m c.args.topology.now of _ (gathered (layer_pairs m) ls) (scope_pairs m c.args.topology.now of _ ls c.in_ok-layers.ensures.layers) c.loop-layer.members.items
    c.sort_members.new.members.items
    (all_gathered (layer_pairs m) ls c.loop-layer.layer-index (map held c.loop-layer.members.items) _ c.loop-layer-test.false (c.loop-layer.invariant m of))
    c.sort_members.ensures.permutation c.sort_members.ensures.sorted
