use Rattle.std.proofs.Common.{◌++◌, ◌+◌, [], ◌∷◌, ◌∙◌, ap, drop, subst, sym, rules}
use Rattle.std.proofs.lemmas.List.{drop_more, map-append}
use Rattle.topo.specs.GeometryOrder.{HaveFeatures, LayersHaveFeatures}
use Rattle.topo.specs.LayerLaws.CutLayers.{layer_cmp, tied}
use Rattle.topo.proofs.LayerLawsLemmas.MergedSteps.{all_behind, tied_has}
use Rattle.refine.specs.Difference.{geometries_in, layers_without}
use Rattle.refine.specs.Borrowed.{all_borrowed, borrowed}
use Rattle.refine.proofs.WhatDiffers.{in_have, next_layer}
use Rattle.refine.proofs.difference.remaining_layers.Goals as goal

pub loop-layer-init : goal.loop-layer-init
loop-layer-init c = record { recorded = c.new-by.ensures c.args.both.now.arcs.arcs; there = search rules; made = search rules }

pub remaining_layer-requires-clause-removed_there : goal.remaining_layer-requires-clause-removed_there
remaining_layer-requires-clause-removed_there c =
    let arcs = c.args.both.now.arcs.arcs in
    subst (λ o. HaveFeatures arcs (geometries_in o)) (sym c.in_ok-other.ensures.tied)
    (in_have arcs (tied layer_cmp c.layer-item.result c.loop-layer.others.items)
    (tied_has layer_cmp c.layer-item.result (λ k. HaveFeatures arcs k.geometries) c.loop-layer.others.items c.loop-layer.invariant.there))

pub loop-layer-preserved : goal.loop-layer-preserved
loop-layer-preserved c =
    let arcs = c.args.both.now.arcs.arcs in
    let i = c.loop-layer.layer-index in
    let l = c.layer-item.result in
    let ls = drop (i + 1) c.args.layers.now in
    let ks = c.loop-layer.others.items in
    let as' = all_borrowed c.loop-layer.left.items in
    record {
      recorded = c.remaining_layer.ensures.recorded;
      there = subst (LayersHaveFeatures arcs) (sym c.in_ok-other.ensures.others) (all_behind layer_cmp l (λ k. HaveFeatures arcs k.geometries) ks c.loop-layer.invariant.there);
      made = next_layer c.args.both.now l (borrowed c.in_ok-remaining_layer.field-0) ls ks c.put_layers_before.new.others.items as' (all_borrowed c.push.new.self.items)
          (layers_without c.args.both.now c.args.layers.now c.args.removed.items) c.in_ok-other.other c.in_ok-other.ensures.tied c.in_ok-other.ensures.others
          c.in_ok-remaining_layer.ensures.left
          (ap all_borrowed c.in_ok-push.ensures.items ∙ map-append borrowed c.loop-layer.left.items (c.in_ok-remaining_layer.field-0 ∷ []))
          (ap (λ w. as' ++ layers_without c.args.both.now w ks) (sym (drop_more c.args.layers.now i l c.loop-layer-test.true ∙ ap (λ y. y ∷ ls) (sym c.layer-item.is))) ∙ c.loop-layer.invariant.made);
    }
