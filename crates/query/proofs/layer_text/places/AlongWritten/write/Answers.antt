use Rattle.std.proofs.Common.{sym, ◌∙◌}
use Rattle.sinks.specs.Texts.{joined}
use Rattle.sinks.proofs.Left.{then_err_at, part_at}
use Rattle.geojson_io.specs.CollectionText.{place_text}
use Rattle.query.proofs.layer_text.places.AlongWritten.write.Goals as goal

pub returns-in-Ok-clause-part : goal.returns-in-Ok-clause-part
returns-in-Ok-clause-part g c =
    then_err_at _ _ _ (λ i. joined (place_text (sym c.grid-grid.ensures i)) ((sym c.walk-walk.ensures.walked ∙ c.in-Some.ensures.steps) i)) c.in-Ok.ensures.whole
    c.write_others.ensures.part

pub returns-in-Err-clause-part : goal.returns-in-Err-clause-part
returns-in-Err-clause-part g c =
    part_at _ (λ i. joined (place_text (sym c.grid-grid.ensures i)) ((sym c.walk-walk.ensures.walked ∙ c.in-Some.ensures.steps) i)) c.in-Err.ensures.part
