use Rattle.std.proofs.Common.{◌≡◌, ◌+◌, ◌-◌, ◌*◌, ◌^◌, min, refl, ap₂, ◌∙◌, arith}
use Rattle.numerals.proofs.Fractions.{parts_are, some_below}
use Rattle.numerals.proofs.fraction.parts_of.Goals as goal

pub nonzero_div-parts : goal.nonzero_div-parts
nonzero_div-parts c =
    let size = c.args.step.now.size in
    let sp = c.args.step.now.places in
    let places = c.args.places in
    let limits = c.size.ensures.limits in
    let above : c.times_power-above.result ≡ min (c.args.number * 10 ^ min (sp + 4 - places) 38) (2 ^ 128 - 1) =
    c.times_power-above.ensures ∙ ap₂ (λ a b. min (a * 10 ^ min b 38) (2 ^ 128 - 1)) refl (omega (arith, c.saturating_sub.ensures, c.from-step_places.ensures, c.places.ensures)) in
    let below : c.times_power-below.result ≡ min (size * 10 ^ min (places - (sp + 4)) 38) (2 ^ 128 - 1) =
    c.times_power-below.ensures ∙ ap₂ (λ a b. min (a * 10 ^ min b 38) (2 ^ 128 - 1)) c.size.ensures.value (omega (arith, c.saturating_sub-2.ensures, c.from-step_places.ensures, c.places.ensures)) in
    some_below c.args.number size sp places c.times_power-above.result c.times_power-below.result 0 c.requires.size limits.some limits.limit above below

pub returns-clause-given : goal.returns-clause-given
returns-clause-given c =
    let size = c.args.step.now.size in
    let sp = c.args.step.now.places in
    let places = c.args.places in
    let limits = c.size.ensures.limits in
    let above : c.times_power-above.result ≡ min (c.args.number * 10 ^ min (sp + 4 - places) 38) (2 ^ 128 - 1) =
    c.times_power-above.ensures ∙ ap₂ (λ a b. min (a * 10 ^ min b 38) (2 ^ 128 - 1)) refl (omega (arith, c.saturating_sub.ensures, c.from-step_places.ensures, c.places.ensures)) in
    let below : c.times_power-below.result ≡ min (size * 10 ^ min (places - (sp + 4)) 38) (2 ^ 128 - 1) =
    c.times_power-below.ensures ∙ ap₂ (λ a b. min (a * 10 ^ min b 38) (2 ^ 128 - 1)) c.size.ensures.value (omega (arith, c.saturating_sub-2.ensures, c.from-step_places.ensures, c.places.ensures)) in
    parts_are c.args.number size sp places c.times_power-above.result c.times_power-below.result c.min.result c.requires.size limits.some limits.limit above below c.min.ensures
