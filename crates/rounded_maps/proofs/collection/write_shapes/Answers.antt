use Rattle.std.proofs.Common.{◌∙◌, ap, map, sym}
use Rattle.sinks.proofs.Left.{left_part, left_step}
use Rattle.rounded_maps.specs.Written.{feature_text, is_after, texts_behind}
use Rattle.rounded_maps.proofs.Texts.{after_some, one_behind}
use Rattle.rounded_maps.proofs.collection.write_shapes.Goals as goal

pub returns-in-Err-clause-part : goal.returns-in-Err-clause-part
returns-in-Err-clause-part g c =
    let text = feature_text c.args.grid.now c.args.feature.now in
    let b = c.loop-shape.is_behind in
    left_part _ c.loop-shape.invariant.took_up (ap (λ l. texts_behind b (map text l)) c.in-Some.ensures.cases.0 ∙ one_behind b (text c.in-Some.shape.now) (map text c.in-Some.after.now)) c.in-Err.ensures.part

pub loop-shape-preserved : goal.loop-shape-preserved
loop-shape-preserved g c =
    let text = feature_text c.args.grid.now c.args.feature.now in
    let b = c.loop-shape.is_behind in
    record {
      took_up = left_step _ c.loop-shape.invariant.took_up (ap (λ l. texts_behind b (map text l)) c.in-Some.ensures.cases.0 ∙ one_behind b (text c.in-Some.shape.now) (map text c.in-Some.after.now)) c.in-Ok.ensures.whole;
      next = after_some (map text c.in-Some.after.now) ∙ ap (λ l. is_after b (map text l)) (sym c.in-Some.ensures.cases.0) ∙ c.loop-shape.invariant.next;
    }
