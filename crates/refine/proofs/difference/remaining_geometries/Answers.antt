use Rattle.std.proofs.Common.{◌++◌, ◌+◌, [], ◌∷◌, ◌∙◌, ap, drop, map, subst, sym}
use Rattle.std.proofs.lemmas.List.{drop_more, map-append}
use Rattle.topo.specs.Features.{HasFeature}
use Rattle.topo.specs.LayerLaws.Leaving.{others}
use Rattle.topo.proofs.LayerLawsLemmas.Passing.{at_place}
use Rattle.refine.specs.Difference.{by_lists, cut_again}
use Rattle.refine.proofs.WhatDiffers.{left_one, passed_one, stay_there}
use Rattle.refine.proofs.difference.remaining_geometries.Goals as goal

pub is_among-requires-clause-there : goal.is_among-requires-clause-there
is_among-requires-clause-there c =
    let arcs = c.args.both.now.arcs.arcs in
    subst (λ g. HasFeature arcs (cut_again c.args.both.now g)) (sym c.geometry-item.is)
    (at_place (λ g. HasFeature arcs (cut_again c.args.both.now g)) c.args.geometries.now c.loop-geometry.geometry-index c.geometry-item.result c.requires.there c.loop-geometry-test.true)

pub loop-geometry-preserved-then-branch : goal.loop-geometry-preserved-then-branch
loop-geometry-preserved-then-branch c =
    let cmp = by_lists c.args.both.now in
    let i = c.loop-geometry.geometry-index in
    let g = c.geometry-item.result in
    let gs = drop (i + 1) c.args.geometries.now in
    let hs = c.loop-geometry.others.items in
    let ks = c.is_among.new.others.items in
    let as' = map (λ g. g.now) c.loop-geometry.left.items in
    record {
      there = stay_there c.args.both.now g hs ks c.in_ok-is_among.ensures.rest c.loop-geometry.invariant.there;
      recorded = c.is_among.ensures.recorded;
      made = passed_one cmp g gs hs ks c.in_ok-is_among.field-0 as' (others cmp c.args.geometries.now c.args.removed.items) c.in_ok-is_among.ensures.among c.if-branch.true
          c.in_ok-is_among.ensures.rest
          (ap (λ w. as' ++ others cmp w hs) (sym (drop_more c.args.geometries.now i g c.loop-geometry-test.true ∙ ap (λ y. y ∷ gs) (sym c.geometry-item.is))) ∙ c.loop-geometry.invariant.made);
    }

pub loop-geometry-preserved : goal.loop-geometry-preserved
loop-geometry-preserved c =
    let cmp = by_lists c.args.both.now in
    let i = c.loop-geometry.geometry-index in
    let g = c.geometry-item.result in
    let gs = drop (i + 1) c.args.geometries.now in
    let hs = c.loop-geometry.others.items in
    let ks = c.is_among.new.others.items in
    let as' = map (λ g. g.now) c.loop-geometry.left.items in
    record {
      there = stay_there c.args.both.now g hs ks c.in_ok-is_among.ensures.rest c.loop-geometry.invariant.there;
      recorded = c.is_among.ensures.recorded;
      made = left_one cmp g gs hs ks c.in_ok-is_among.field-0 as' (map (λ g. g.now) c.push.new.self.items) (others cmp c.args.geometries.now c.args.removed.items)
          c.in_ok-is_among.ensures.among c.if-branch.false c.in_ok-is_among.ensures.rest
          (ap (map (λ g. g.now)) c.in_ok-push.ensures.items ∙ map-append (λ g. g.now) c.loop-geometry.left.items (_ ∷ []))
          (ap (λ w. as' ++ others cmp w hs) (sym (drop_more c.args.geometries.now i g c.loop-geometry-test.true ∙ ap (λ y. y ∷ gs) (sym c.geometry-item.is))) ∙ c.loop-geometry.invariant.made);
    }
