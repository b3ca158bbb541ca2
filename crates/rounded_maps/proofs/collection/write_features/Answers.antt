use Rattle.std.proofs.Common.{◌∙◌, ◌++◌, ap, sym}
use Rattle.sinks.proofs.Left.{left_part, left_step}
use Rattle.theory.specs.Lists.{gathered}
use Rattle.rounded_maps.specs.Written.{feature_texts, texts_behind}
use Rattle.rounded_maps.proofs.Texts.{both_behind}
use Rattle.rounded_maps.proofs.collection.write_features.Goals as goal

pub returns-in-Err-clause-part : goal.returns-in-Err-clause-part
returns-in-Err-clause-part g c =
    let texts = feature_texts c.args.grid.now in
    let b = c.loop-feature.is_behind in
    left_part _ c.loop-feature.invariant (ap (λ l. texts_behind b (gathered texts l)) c.in-Some.ensures.cases.0 ∙ both_behind b (texts c.in-Some.feature.now) (gathered texts c.in-Some.after.now)) c.in-Err.ensures.part

pub loop-feature-preserved : goal.loop-feature-preserved
loop-feature-preserved g c =
    let texts = feature_texts c.args.grid.now in
    let b = c.loop-feature.is_behind in
    let left = gathered texts c.in-Some.after.now in
    left_step _ c.loop-feature.invariant
    (ap (λ l. texts_behind b (gathered texts l)) c.in-Some.ensures.cases.0 ∙ both_behind b (texts c.in-Some.feature.now) left
    ∙ ap (λ q. texts_behind b (texts c.in-Some.feature.now) ++ texts_behind q left) (sym c.in-Ok.ensures.next))
    c.in-Ok.ensures.whole
