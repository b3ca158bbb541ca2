use Rattle.std.proofs.Common.{◌∙◌, ◌∷◌, [], ap, cond, sym}
use Rattle.sinks.specs.Texts.{after_commas}
use Rattle.sinks.proofs.Left.{left_step, left_part}
use Rattle.geojson_io.specs.CollectionText.{place_text}
use Rattle.query.specs.Steps.{up_to_from}
use Rattle.query.proofs.layer_text.places.write_up_to.Goals as goal

pub loop-next-preserved : goal.loop-next-preserved
loop-next-preserved g c =
    left_step _ c.loop-next.invariant
    (ap (λ w. after_commas (place_text c.args.grid.now) (up_to_from c.args.step c.loop-next.here w)) c.in-Some.ensures.steps
    ∙ ap (λ b. after_commas (place_text c.args.grid.now) (cond b [] (c.in-Some.next.now ∷ up_to_from c.args.step c.in-Some.next.now c.next.new.self)))
    (sym c.is_step.ensures ∙ c.if-is_step.false))
    c.in-Ok.ensures.whole

pub returns-in-Err-clause-part : goal.returns-in-Err-clause-part
returns-in-Err-clause-part g c =
    left_part _ c.loop-next.invariant
    (ap (λ w. after_commas (place_text c.args.grid.now) (up_to_from c.args.step c.loop-next.here w)) c.in-Some.ensures.steps
    ∙ ap (λ b. after_commas (place_text c.args.grid.now) (cond b [] (c.in-Some.next.now ∷ up_to_from c.args.step c.in-Some.next.now c.next.new.self)))
    (sym c.is_step.ensures ∙ c.if-is_step.false))
    c.in-Err.ensures.part
