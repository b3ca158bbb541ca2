use Rattle.std.proofs.Common.{◌≡◌, ◌+◌, ◌∙◌, ◌∷◌, ◌++◌, ap, drop, length, subst}
use Rattle.lines.proofs.Dropping.{drop_item}
use Rattle.snapping.specs.NearlyShared.Uses.{shapes_uses}
use Rattle.rounded_maps.specs.Joined.{feature_shapes}
use Rattle.rounded_maps.proofs.Vertices.{counts_step, uses_step}
use Rattle.rounded_maps.proofs.building.add_vertices.Goals as goal

pub loop-feature-preserved : goal.loop-feature-preserved
loop-feature-preserved c =
    let i = c.loop-feature.feature-index in
    let all = c.args.map.now.features.items in
    let item = c.feature-item.result in
    let split = subst (λ l. drop i l ≡ item ∷ drop (i + 1) l) c.deref-feature-items.ensures.value (drop_item c.deref-feature-items.result.now i item c.loop-feature-test.true c.feature-item.is) in
    let u = c.loop-feature.vertices.uses.items in
    let m = c.loop-feature.vertices.features in
    let noted = c.in_ok-add.ensures.uses ∙ ap (λ ss. u ++ shapes_uses m ss) c.as_slice.ensures.value in
    let counted = c.in_ok-add.ensures.features ∙ ap (λ ss. m + length ss) c.as_slice.ensures.value in
    record {
      uses = uses_step feature_shapes u _ _ m _ c.feature-item.result (drop i all) (drop (i + 1) all) split noted counted c.loop-feature.invariant.uses;
      features = counts_step feature_shapes _ m _ c.feature-item.result (drop i all) (drop (i + 1) all) split counted c.loop-feature.invariant.features;
    }
