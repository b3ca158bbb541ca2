use Rattle.std.proofs.Common.{◌≡◌, Some, to_z, of_z, w64, refl, sym, subst, ap, ◌∙◌, arith}
use Rattle.std.proofs.lemmas.Int.{ints, to_z-of_z}
use Rattle.std.specs.Str.Parse.{starts_with_minus}
use Rattle.fast_float.specs.Text.{with_sign}
use Rattle.grid.specs.Place.{IsGridNumber}
use Rattle.numerals.specs.Distance.{distance_of}
use Rattle.numerals.specs.Numeral.{IsNumeral, IsSnapped}
use Rattle.numerals.proofs.Steps.{pair_parts, text_beyond, text_snapped}
use Rattle.numerals.proofs.rounding.snap.Goals as goal

pub returns-then-steps : goal.returns-then-steps
returns-then-steps c p =
    let rounded = rw c.without_sign-negative.ensures.rest at c.in-Some.ensures.given in (
      λ none. absurd cc,
      λ b. absurd (text_beyond c.args.step.now c.args.text.now c.in-Some.steps p (c.in-Some.ensures.limits refl) rounded c.if-steps.true b.1 b.2),
    )

pub returns-in-Some : goal.returns-in-Some
returns-in-Some c p =
    let text = c.args.text.now in
    let rounded = rw c.without_sign-negative.ensures.rest at c.in-Some.ensures.given in
    let unsigned = rw c.without_sign-negative.ensures.rest at (c.in-Some.ensures.unsigned refl) in
    let numeral : IsNumeral text = record { digits = unsigned.digits; complete = unsigned.complete } in
    let exact = text_snapped c.args.step.now text c.in-Some.steps (c.in-Some.ensures.limits refl) numeral rounded c.if-steps.false p in
    let same : to_z w64 (of_z w64 c.with_sign.result) ≡ with_sign (starts_with_minus text) c.in-Some.steps =
    omega (arith, ints) ∙ (c.with_sign.ensures ∙ ap (λ b. with_sign b c.in-Some.steps) c.without_sign-negative.ensures.sign) in
    (λ e. let is : to_z w64 (of_z w64 c.with_sign.result) ≡ p = cc in let found = exact.0 (sym same ∙ is) in (numeral, found.0, found.1), λ b. ap Some (same ∙ exact.1 (b.1, b.2)))

pub returns-in-Some-snap_measured : goal.returns-in-Some-snap_measured
returns-in-Some-snap_measured c p =
    let steps = c.in-Some-snap_measured.steps in
    let found = (c.in-Some-snap_measured.ensures _ _).0 refl in
    let back : to_z w64 (of_z w64 steps) ≡ steps = to_z-of_z w64 steps (record { sfits = omega (arith, ints, found.2.low, found.2.high) }) in (
      λ e. let same : steps ≡ p = cc in (found.0, subst (λ x. IsSnapped c.args.step.now c.args.text.now x) same found.1, subst IsGridNumber same found.2),
      λ b. ap Some (back ∙ (pair_parts steps p _ _ ((c.in-Some-snap_measured.ensures p (distance_of c.args.step.now c.args.text.now)).1 (b.0, b.1, b.2, refl))).0),
    )

pub returns-in-None : goal.returns-in-None
returns-in-None c p = (λ none. absurd (cc), λ b. let some = (c.in-None.ensures p (distance_of c.args.step.now c.args.text.now)).1 (b.0, b.1, b.2, refl) in absurd (cc))
