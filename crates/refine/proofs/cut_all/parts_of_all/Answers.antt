use Rattle.std.proofs.Common.{◌∙◌, ◌∷◌, [], ap, arith}
use Rattle.std.proofs.lemmas.List.{map-append}
use Rattle.refine.specs.ManyLayers.{layers_in, maps_of}
use Rattle.refine.proofs.ManyParts.{no_items, parts_done, parts_over, parts_step}
use Rattle.refine.proofs.cut_all.parts_of_all.Goals as goal

pub loop-shard-preserved : goal.loop-shard-preserved
loop-shard-preserved c =
    parts_step (maps_of c.args.shards.items) (maps_of c.loop-shard.shard-iterator.rest.items) (maps_of c.next.new.self.rest.items) c.in-Some.shard.map
    c.loop-shard.tables.items c.push.new.self.items (layers_in c.loop-shard.lists.items) (layers_in c.push-in-loop-shard.new.self.items) _ _
    c.loop-shard.invariant (ap maps_of c.in-Some.ensures.steps.0)
    (parts_over c.in-Some.shard.map c.into_topology.result _ _ c.into_topology.ensures.of_map c.into_parts-arcs.ensures.arcs c.into_parts-arcs.ensures.layers)
    c.in_ok-push.ensures.items (ap layers_in c.in_ok-push-2.ensures.items ∙ map-append _ c.loop-shard.lists.items (_ ∷ []))

pub returns : goal.returns
returns c =
    parts_done (maps_of c.args.shards.items) (maps_of c.loop-shard.shard-iterator.rest.items) c.loop-shard.tables.items (layers_in c.loop-shard.lists.items)
    c.loop-shard.invariant (ap maps_of (no_items c.loop-shard.shard-iterator.rest.items (omega (arith, c.in-None.ensures.steps.0, c.loop-shard.shard-iterator.rest.ok.0))))
