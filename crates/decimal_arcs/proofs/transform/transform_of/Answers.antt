use Rattle.std.proofs.Common.{ap, ◌∙◌}
use Rattle.std.specs.Prelude.{codes}
use Rattle.json.specs.Value.{value_view}
use Rattle.decimal_arcs.specs.Transforms.{texts_of}
use Rattle.decimal_arcs.proofs.Fits.{no_x, no_y}
use Rattle.decimal_arcs.proofs.transform.transform_of.Goals as goal

pub returns-in_err-x-clause-none : goal.returns-in_err-x-clause-none
returns-in_err-x-clause-none c is e =
    let scale = texts_of (codes "scale") (value_view c.args.value.now) in
    let translate = texts_of (codes "translate") (value_view c.args.value.now) in
    no_x scale translate c.as_bytes.result.now c.as_bytes-2.result.now (c.as_bytes.ensures.value ∙ ap (λ p. p.0) c.texts_of-scale.ensures)
    (c.as_bytes-2.ensures.value ∙ ap (λ p. p.0) c.texts_of-translate.ensures) c.in_err-x.ensures e

pub returns-in_err-y-clause-none : goal.returns-in_err-y-clause-none
returns-in_err-y-clause-none c is e =
    let scale = texts_of (codes "scale") (value_view c.args.value.now) in
    let translate = texts_of (codes "translate") (value_view c.args.value.now) in
    no_y scale translate c.as_bytes-3.result.now c.as_bytes-4.result.now (c.as_bytes-3.ensures.value ∙ ap (λ p. p.1) c.texts_of-scale.ensures)
    (c.as_bytes-4.ensures.value ∙ ap (λ p. p.1) c.texts_of-translate.ensures) c.in_err-y.ensures e
