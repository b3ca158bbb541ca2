-- The steps of a numeral, with no sign and with one.
use Rattle.std.proofs.Common.{◌≡◌, ℕ, ◌+◌, ◌*◌, ◌/◌, ◌^◌, ◌<◌, ◌≤◌, Bool, true, false, ℤ, pos, negsuc, ◌*ℤ◌, List, Option, Some, None, ◌↔◌, refl, sym, subst, ap, ◌∙◌, arith, mul-le-mul_right}
use Rattle.std.proofs.lemmas.Int.{ints}
use Rattle.std.proofs.lemmas.Nat.{pow-add}
use Rattle.std.specs.Prelude.{unsigned_abs}
use Rattle.std.specs.Str.Parse.{starts_with_minus}
use Rattle.fast_float.proofs.ExactLemmas.{ten_to_pos}
use Rattle.fast_float.specs.Text.{digits_of, tens_up, tens_down, with_sign}
use Rattle.grid.specs.Place.{IsGridNumber}
use Rattle.numerals.specs.Distance.{AreTenThousandths, away, distance_of, rounded_up}
use Rattle.numerals.specs.Nearest.{IsNearest, IsRounded}
use Rattle.numerals.specs.Numeral.{IsMeasure, IsNumeral, IsSnapped, Measure, denominator, dividend, divisor, parts_of}
use Rattle.numerals.proofs.Nearest.{below_times, beyond, one_rounded, to_nearest, from_nearest, within}

-- a sign is kept by a positive factor
pub sign_times : (negative : Bool) (a b : ℕ) → with_sign negative a *ℤ pos b ≡ with_sign negative (a * b)
sign_times false a b = refl
sign_times true a b = below_times a b

pub dividend_is : (text : List ℕ) (s : Measure)
    → with_sign (starts_with_minus text) (digits_of (parts_of text) * 10 ^ (tens_up (parts_of text) + s.places)) ≡ dividend s text
dividend_is text s =
    let p = parts_of text in
    let tens : digits_of p * 10 ^ (tens_up p + s.places) ≡ digits_of p * 10 ^ tens_up p * 10 ^ s.places =
    omega (arith, ap (λ x. digits_of p * x) (pow-add 10 (tens_up p) s.places)) in
    ap (with_sign (starts_with_minus text)) tens ∙ sym (sign_times (starts_with_minus text) (digits_of p * 10 ^ tens_up p) (10 ^ s.places))

pub size_of_sign : (negative : Bool) (n : ℕ) → unsigned_abs (with_sign negative n) ≡ n
size_of_sign false n = refl
size_of_sign true n = omega (arith, ints)

-- with its sign, the rounded number is the nearest one
pub signed_nearest : (negative : Bool) (n d q : ℕ) (p : ℤ) → 0 < d → IsRounded n d q → q ≤ 2 ^ 40
    → (with_sign negative q ≡ p) ↔ (IsNearest (with_sign negative n) d p × IsGridNumber p)
signed_nearest negative n d q p some a within = (
  λ e. (subst (λ x. IsNearest (with_sign negative n) d x) e (to_nearest negative n d q a), subst IsGridNumber e (in_grid negative q within)),
  λ b. let sized = from_nearest negative n d p some b.0 in ap (with_sign negative) (one_rounded n d q (unsigned_abs p) a sized.0) ∙ sym sized.1,
)
  where
    in_grid : (negative : Bool) (q : ℕ) → q ≤ 2 ^ 40 → IsGridNumber (with_sign negative q)
    in_grid false q h = record { low = omega (arith, ints); high = omega (arith, ints) }
    in_grid true q h = record { low = omega (arith, ints); high = omega (arith, ints) }

pub grid_size : (p : ℤ) → IsGridNumber p → unsigned_abs p ≤ 2 ^ 40
grid_size (pos q) h = omega (arith, ints, h.high)
grid_size (negsuc k) h = omega (arith, ints, h.low)

abbrev pub pair : ℤ → ℕ → Option (ℤ × ℕ)
pair p d = Some (p, d)

pub pair_parts : (z p : ℤ) (x d : ℕ) → pair z x ≡ pair p d → (z ≡ p) × (x ≡ d)
pair_parts z p x d q = (ap first q, ap second q)
  where
    first : Option (ℤ × ℕ) → ℤ
    first None = pos 0
    first (Some q) = q.0

    second : Option (ℤ × ℕ) → ℕ
    second None = 0
    second (Some q) = q.1

-- a position and a distance are those of a number
abbrev pub IsMeasured : Bool → ℕ → ℕ → ℤ → ℕ → Type 0
IsMeasured negative n d p x = IsNearest (with_sign negative n) d p × IsGridNumber p × (x ≡ rounded_up (10000 * away n d) d)

pub some_divisor : (s : Measure) (text : List ℕ) → IsMeasure s → 0 < divisor s text
some_divisor s text h = omega (arith, mul-le-mul_right (denominator text) h.some, ten_to_pos (tens_down (parts_of text)))

module _ (negative : Bool) (n d k : ℕ) (e : Bool) (some : 0 < d) (h : AreTenThousandths n d k e) where
  pub measured_within : (z : ℤ) (x : ℕ) → (k + 5000) / 10000 ≤ 2 ^ 40 → z ≡ with_sign negative ((k + 5000) / 10000) → x ≡ rounded_up (10000 * away n d) d
      → (p : ℤ) (y : ℕ) → (pair z x ≡ pair p y) ↔ IsMeasured negative n d p y
  measured_within z x few is far p y =
      let exact = signed_nearest negative n d ((k + 5000) / 10000) p some (within n d k e h few) few in (
        λ q. let same = pair_parts z p x y q in let a = exact.0 (sym is ∙ same.0) in (a.0, a.1, sym same.1 ∙ far),
        λ b. (λ i. pair ((is ∙ exact.1 (b.0, b.1)) i) ((far ∙ sym b.2) i)),
      )

  pub measured_beyond : (p : ℤ) (y : ℕ) → 2 ^ 40 < (k + 5000) / 10000 → IsMeasured negative n d p y → ⊥
  measured_beyond p y many b =
      let sized = from_nearest negative n d p some b.0 in
      omega (arith, grid_size p b.1, beyond n d k (unsigned_abs p) e some h many sized.0)

-- what is measured of a numeral, by its digits and its sign
pub text_measured : (s : Measure) (text : List ℕ) (r : Option (ℤ × ℕ)) → IsNumeral text
    → ((p : ℤ) (x : ℕ) → (r ≡ pair p x) ↔ IsMeasured (starts_with_minus text) (digits_of (parts_of text) * 10 ^ (tens_up (parts_of text) + s.places)) (divisor s text) p x)
    → (p : ℤ) (x : ℕ) → (r ≡ pair p x) ↔ (IsNumeral text × IsSnapped s text p × IsGridNumber p × (x ≡ distance_of s text))
text_measured s text r numeral exact p x =
    let n = digits_of (parts_of text) * 10 ^ (tens_up (parts_of text) + s.places) in
    let size : n ≡ unsigned_abs (dividend s text) = sym (size_of_sign (starts_with_minus text) n) ∙ ap unsigned_abs (dividend_is text s) in
    let far : rounded_up (10000 * away n (divisor s text)) (divisor s text) ≡ distance_of s text = ap (λ y. rounded_up (10000 * away y (divisor s text)) (divisor s text)) size in (
      λ q. let a = (exact p x).0 q in (numeral, subst (λ z. IsNearest z (divisor s text) p) (dividend_is text s) a.0, a.1, a.2 ∙ far),
      λ b. (exact p x).1 (subst (λ z. IsNearest z (divisor s text) p) (sym (dividend_is text s)) b.1, b.2, b.3 ∙ sym far),
    )

-- the nearest number of steps to a numeral
pub text_snapped : (s : Measure) (text : List ℕ) (q : ℕ) → IsMeasure s → IsNumeral text
    → IsRounded (digits_of (parts_of text) * 10 ^ (tens_up (parts_of text) + s.places)) (divisor s text) q → q ≤ 2 ^ 40
    → (p : ℤ) → (with_sign (starts_with_minus text) q ≡ p) ↔ (IsSnapped s text p × IsGridNumber p)
text_snapped s text q limits numeral rounded few p =
    rw (dividend_is text s) at (signed_nearest (starts_with_minus text) _ _ q p (some_divisor s text limits) rounded few)

-- a numeral that is beyond the limit
pub text_beyond : (s : Measure) (text : List ℕ) (q : ℕ) (p : ℤ) → IsMeasure s → IsRounded (digits_of (parts_of text) * 10 ^ (tens_up (parts_of text) + s.places)) (divisor s text) q
    → 2 ^ 40 < q → IsSnapped s text p → IsGridNumber p → ⊥
text_beyond s text q p limits rounded many near grid =
    let some = some_divisor s text limits in
    let n = digits_of (parts_of text) * 10 ^ (tens_up (parts_of text) + s.places) in
    let sized = from_nearest (starts_with_minus text) n (divisor s text) p some (rw (← dividend_is text s) at near) in
    omega (arith, many, grid_size p grid, one_rounded n (divisor s text) q (unsigned_abs p) rounded sized.0)
