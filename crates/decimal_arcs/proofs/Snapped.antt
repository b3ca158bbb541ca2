-- Numbers of steps: what is found of the nearest one is what the definitions compute.
use Rattle.std.proofs.Common.{◌≡◌, ◌↔◌, ℕ, ◌+◌, ◌*◌, ◌/◌, ◌^◌, ◌<◌, ◌≤◌, Bool, true, false, nat_eq, nat_le, ℤ, pos, List, length, Option, Some, None, refl, sym, subst, ap, ◌∙◌, arith, eqb-true, le-leb, leb-true, if◌then◌else◌}
use Rattle.std.proofs.lemmas.Int.{unsigned_abs-mul}
use Rattle.std.specs.Int.Signed.{lt_z}
use Rattle.std.specs.Prelude.{unsigned_abs}
use Rattle.std.specs.Str.Parse.{starts_with_minus}
use Rattle.fast_float.specs.Text.{has_digits, with_sign}
use Rattle.grid.specs.Place.{IsGridNumber}
use Rattle.grid.proofs.Judged.{both_first, both_second}
use Rattle.numerals.specs.Axis.{Axis, IsSnappedAt, distance_at, value_at, value_dividend, value_divisor}
use Rattle.numerals.specs.Distance.{distance_of}
use Rattle.numerals.specs.Nearest.{IsNearest}
use Rattle.numerals.specs.Numeral.{IsMeasure, IsNumeral, IsSnapped, Measure, dividend, divisor, parts_of, unsigned_text}
use Rattle.numerals.proofs.Axes.{sign_by, sized_times, some_value_divisor}
use Rattle.numerals.proofs.Nearest.{from_nearest, one_rounded, rounded_halves_of}
use Rattle.numerals.proofs.Steps.{dividend_is, grid_size, pair, signed_nearest, size_of_sign, some_divisor}
use Rattle.decimal_faults.specs.Positions.{is_numeral, nearest_of, steps_of}
use Rattle.decimal_faults.proofs.Numbers.{numeral_test}
use Rattle.decimal_arcs.specs.Axes.{nearest_at, snapped_at, snapped_text, steps_at}

-- the number n / d, rounded to the nearest, where that is a grid number
abbrev answer_of : Bool → ℕ → ℕ → ℕ → Option (ℤ × ℕ)
answer_of b n d far = if nat_le ((n * 2 + d) / (d * 2)) (2 ^ 40) then Some (with_sign b ((n * 2 + d) / (d * 2)), far) else None

answer : (b : Bool) (n d far : ℕ) (r : Option (ℤ × ℕ)) → 0 < d → ((p : ℤ) (x : ℕ) → (r ≡ pair p x) ↔ (IsNearest (with_sign b n) d p × IsGridNumber p × (x ≡ far)))
    → r ≡ answer_of b n d far
answer b n d far r some exact = by_test (nat_le ((n * 2 + d) / (d * 2)) (2 ^ 40)) refl
  where
    steps : ℕ
    steps = (n * 2 + d) / (d * 2)

    none : (r : Option (ℤ × ℕ)) → ((p : ℤ) (x : ℕ) → r ≡ pair p x → ⊥) → r ≡ None
    none None h = refl
    none (Some q) h = absurd (h q.0 q.1 refl)

    by_test : (t : Bool) → nat_le ((n * 2 + d) / (d * 2)) (2 ^ 40) ≡ t → r ≡ answer_of b n d far
    by_test true e =
        let few : (n * 2 + d) / (d * 2) ≤ 2 ^ 40 = leb-true _ _ e in
        let near = (signed_nearest b n d ((n * 2 + d) / (d * 2)) (with_sign b ((n * 2 + d) / (d * 2))) some (rounded_halves_of n d some) few).0 refl in
        rw e ((exact (with_sign b ((n * 2 + d) / (d * 2))) far).1 (near.0, near.1, refl))
    by_test false e =
        rw e (none r (λ p x is.
        let h = (exact p x).0 is in
        let sized = from_nearest b n d p some h.0 in
        let same = one_rounded n d ((n * 2 + d) / (d * 2)) (unsigned_abs p) (rounded_halves_of n d some) sized.0 in
        let few : nat_le ((n * 2 + d) / (d * 2)) (2 ^ 40) ≡ true = le-leb _ _ (omega (arith, same, grid_size p h.1)) in
        absurd (true_false (sym few ∙ e))))
      where
        true_false : true ≡ false → ⊥
        true_false e = cc

-- ---- an axis

dividend_sign : (a : Axis) (s : Measure) (n : ℤ) → with_sign (lt_z (value_at a n) (pos 0)) (unsigned_abs (value_dividend a s n)) ≡ value_dividend a s n
dividend_sign a s n =
    ap (with_sign (lt_z (value_at a n) (pos 0))) (unsigned_abs-mul (value_at a n) (pos (10 ^ s.places)))
    ∙ sized_times (value_at a n) (lt_z (value_at a n) (pos 0)) (10 ^ s.places) (sign_by (value_at a n))

pub axis_answer : (a : Axis) (s : Measure) (n : ℤ) (r : Option (ℤ × ℕ)) → IsMeasure s
    → ((p : ℤ) (x : ℕ) → (r ≡ pair p x) ↔ (IsSnappedAt a s n p × IsGridNumber p × (x ≡ distance_at a s n))) → r ≡ snapped_at a s n
unfolding snapped_at nearest_at steps_at
axis_answer a s n r h exact =
    answer (lt_z (value_at a n) (pos 0)) (unsigned_abs (value_dividend a s n)) (value_divisor a s) (distance_at a s n) r (some_value_divisor a s h) (λ p x. (
      λ e. let b = (exact p x).0 e in (subst (λ z. IsNearest z (value_divisor a s) p) (sym (dividend_sign a s n)) b.0, b.1, b.2),
      λ b. (exact p x).1 (subst (λ z. IsNearest z (value_divisor a s) p) (dividend_sign a s n) b.0, b.1, b.2),
    ))

-- ---- a numeral

text_sign : (s : Measure) (text : List ℕ) → with_sign (starts_with_minus text) (unsigned_abs (dividend s text)) ≡ dividend s text
text_sign s text =
    ap (with_sign (starts_with_minus text)) (ap unsigned_abs (sym (dividend_is text s)) ∙ size_of_sign (starts_with_minus text) _) ∙ dividend_is text s

numeral_by_test : (text : List ℕ) → is_numeral text ≡ true → IsNumeral text
numeral_by_test text e = record {
  digits = both_first (has_digits (parts_of text)) (nat_eq (parts_of text).len (length (unsigned_text text))) e;
  complete = eqb-true (parts_of text).len (length (unsigned_text text)) (both_second (has_digits (parts_of text)) (nat_eq (parts_of text).len (length (unsigned_text text))) e);
}

pub text_answer : (s : Measure) (text : List ℕ) (r : Option (ℤ × ℕ)) → IsMeasure s
    → ((p : ℤ) (x : ℕ) → (r ≡ pair p x) ↔ (IsNumeral text × IsSnapped s text p × IsGridNumber p × (x ≡ distance_of s text))) → r ≡ snapped_text s text
unfolding snapped_text nearest_of steps_of
text_answer s text r h exact = by_test (is_numeral text) refl
  where
    none : (r : Option (ℤ × ℕ)) → ((p : ℤ) (x : ℕ) → r ≡ pair p x → ⊥) → r ≡ None
    none None h = refl
    none (Some q) h = absurd (h q.0 q.1 refl)

    by_test : (t : Bool) → is_numeral text ≡ t → r ≡ snapped_text s text
    by_test true e =
        let numeral = numeral_by_test text e in
        rw e (answer (starts_with_minus text) (unsigned_abs (dividend s text)) (divisor s text) (distance_of s text) r (some_divisor s text h) (λ p x. (
          λ e. let b = (exact p x).0 e in (subst (λ z. IsNearest z (divisor s text) p) (sym (text_sign s text)) b.1, b.2, b.3),
          λ b. (exact p x).1 (numeral, subst (λ z. IsNearest z (divisor s text) p) (text_sign s text) b.0, b.1, b.2),
        )))
    by_test false e = rw e (none r (λ p x is. absurd (true_false (sym (numeral_test text ((exact p x).0 is).0) ∙ e))))
      where
        true_false : true ≡ false → ⊥
        true_false e = cc
