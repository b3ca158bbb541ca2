-- Scaled numerals: the nearest whole number is the rounded one.
use Rattle.std.proofs.Common.{◌≡◌, ℕ, ◌+◌, ◌*◌, ◌^◌, ◌<◌, Bool, true, false, ◌&&◌, ◌==◌, ℤ, ◌↔◌, List, length, Option, Some, None, refl, sym, ap, ◌∙◌, subst, arith, le-leb, eq-eqb}
use Rattle.std.proofs.lemmas.Bool.{and_from, and_parts, eqb-true, leb-true}
use Rattle.std.specs.Prelude.{nat_le, unsigned_abs, if◌then◌else◌}
use Rattle.std.specs.Str.Parse.{starts_with_minus}
use Rattle.fast_float.proofs.ExactLemmas.{ten_to_pos}
use Rattle.fast_float.specs.Text.{digits_of, has_digits, tens_down, tens_up, with_sign}
use Rattle.grid.specs.Place.{IsGridNumber}
use Rattle.numerals.specs.Nearest.{IsNearest, IsRounded}
use Rattle.numerals.specs.Numeral.{IsNumeral, IsSnapped, Measure, denominator, divisor, measure, parts_of, unsigned_text}
use Rattle.numerals.proofs.Nearest.{from_nearest, one_rounded, rounded_halves_of}
use Rattle.numerals.proofs.Steps.{dividend_is, grid_size, signed_nearest}
use Rattle.numerals.specs.Whole.{is_numeral}
use Rattle.attributes.specs.Numerals.{scaled, scaled_size}

pub numeral_from : (text : List ℕ) → is_numeral text ≡ true → IsNumeral text
numeral_from text e =
    let parts = and_parts (has_digits (parts_of text)) ((parts_of text).len == length (unsigned_text text)) e in
    record { digits = parts.0; complete = eqb-true _ _ parts.1 }

pub numeral_is : (text : List ℕ) → IsNumeral text → is_numeral text ≡ true
numeral_is text h = and_from _ _ h.digits (eq-eqb _ _ h.complete)

module _ (places : ℕ) (text : List ℕ) where
  -- the numeral without its sign, over the power of ten of its places
  abbrev above : ℕ
  above = digits_of (parts_of text) * 10 ^ (tens_up (parts_of text) + places)

  under : 0 < denominator text
  under = ten_to_pos (tens_down (parts_of text))

  one_step : divisor (measure 1 places) text ≡ denominator text
  one_step = omega arith

  rounded : IsRounded above (denominator text) (scaled_size places text)
  rounded = rounded_halves_of above (denominator text) under

  -- what it is to be the nearest, with no step
  snapped_to : (p : ℤ) → IsSnapped (measure 1 places) text p → IsNearest (with_sign (starts_with_minus text) above) (denominator text) p
  snapped_to p h = subst (λ d. IsNearest (with_sign (starts_with_minus text) above) d p) one_step (subst (λ n. IsNearest n (divisor (measure 1 places) text) p) (sym (dividend_is text (measure 1 places))) h)

  to_snapped : (p : ℤ) → IsNearest (with_sign (starts_with_minus text) above) (denominator text) p → IsSnapped (measure 1 places) text p
  to_snapped p h = subst (λ n. IsNearest n (divisor (measure 1 places) text) p) (dividend_is text (measure 1 places)) (subst (λ d. IsNearest (with_sign (starts_with_minus text) above) d p) (sym one_step) h)

  -- there is a number, which is near and within the limit
  number_near : (is_numeral text && nat_le (scaled_size places text) (2 ^ 40)) ≡ true
      → IsNumeral text × IsSnapped (measure 1 places) text (with_sign (starts_with_minus text) (scaled_size places text)) × IsGridNumber (with_sign (starts_with_minus text) (scaled_size places text))
  number_near e =
      let parts = and_parts (is_numeral text) (nat_le (scaled_size places text) (2 ^ 40)) e in
      let p = with_sign (starts_with_minus text) (scaled_size places text) in
      let near = (signed_nearest (starts_with_minus text) above (denominator text) (scaled_size places text) p under rounded (leb-true _ _ parts.1)).0 refl in
      (numeral_from text parts.0, to_snapped p near.0, near.1)

  abbrev choice : Bool → Option ℤ
  choice b = if b then Some (with_sign (starts_with_minus text) (scaled_size places text)) else None

  found : (p : ℤ) (b : Bool) → (is_numeral text && nat_le (scaled_size places text) (2 ^ 40)) ≡ b → choice b ≡ Some p → IsNumeral text × IsSnapped (measure 1 places) text p × IsGridNumber p
  found p true test e =
      let same : with_sign (starts_with_minus text) (scaled_size places text) ≡ p = cc in
      subst (λ q. IsNumeral text × IsSnapped (measure 1 places) text q × IsGridNumber q) same (number_near test)
  found p false test e = absurd (cc)

  exact : (p : ℤ) → IsNumeral text × IsSnapped (measure 1 places) text p × IsGridNumber p → scaled places text ≡ Some p
  exact p h =
      let sized = from_nearest (starts_with_minus text) above (denominator text) p under (snapped_to p h.1) in
      let size : scaled_size places text ≡ unsigned_abs p = one_rounded above (denominator text) _ (unsigned_abs p) rounded sized.0 in
      let test = and_from _ _ (numeral_is text h.0) (le-leb (scaled_size places text) (2 ^ 40) (omega (arith, size, grid_size p h.2))) in
      ap choice test ∙ ap (λ q. Some (with_sign (starts_with_minus text) q)) size ∙ ap Some (sym sized.1)

  -- the one whole number of steps that is nearest is the rounded one
  pub scaled_nearest : (p : ℤ) → (scaled places text ≡ Some p) ↔ (IsNumeral text × IsSnapped (measure 1 places) text p × IsGridNumber p)
  scaled_nearest p = (found p _ refl, exact p)

same_number : (o s : Option ℤ) → ((p : ℤ) → o ≡ Some p → s ≡ Some p) → ((p : ℤ) → s ≡ Some p → o ≡ Some p) → o ≡ s
same_number None None f g = refl
same_number None (Some p) f g = let e = g p refl in absurd (cc)
same_number (Some p) s f g = sym (f p refl)

-- what is the nearest whole number, to a step that is a power of ten, is the rounded one
pub scaled_by_step : (o : Option ℤ) (places : ℕ) (text bytes : List ℕ) (step : Measure) → bytes ≡ text → step ≡ measure 1 places
    → ((p : ℤ) → (o ≡ Some p) ↔ (IsNumeral bytes × IsSnapped step bytes p × IsGridNumber p)) → o ≡ scaled places text
scaled_by_step o places text bytes step same is nearest =
    let given = subst (λ s. (p : ℤ) → (o ≡ Some p) ↔ (IsNumeral text × IsSnapped s text p × IsGridNumber p)) is
    (subst (λ t. (p : ℤ) → (o ≡ Some p) ↔ (IsNumeral t × IsSnapped step t p × IsGridNumber p)) same nearest) in
    same_number o (scaled places text) (λ p e. (scaled_nearest places text p).1 ((given p).0 e)) (λ p e. (given p).1 ((scaled_nearest places text p).0 e))
