-- Numbers over a common power of ten, and the values at the numbers of an axis.
use Rattle.std.proofs.Common.{◌≡◌, ◌↔◌, ℕ, nat_lt, ◌-◌, ◌*◌, ◌^◌, ◌<◌, ◌≤◌, min, Bool, false, ℤ, pos, negsuc, ◌+ℤ◌, ◌*ℤ◌, to_z, of_z, w64, List, Option, refl, sym, subst, ap, ◌∙◌, arith, mul-le-mul_right}
use Rattle.std.proofs.lemmas.Bool.Decides.{nat_tests}
use Rattle.std.proofs.lemmas.Int.{ints, to_z-of_z, unsigned_abs-mul}
use Rattle.std.proofs.lemmas.Nat.{mul-le}
use Rattle.std.specs.Int.Signed.{lt_z}
use Rattle.std.specs.Int.{w128}
use Rattle.std.specs.Prelude.{FitsSigned, unsigned_abs}
use Rattle.std.specs.Str.Parse.{starts_with_minus}
use Rattle.fast_float.proofs.ExactLemmas.{ten_to_pos}
use Rattle.fast_float.specs.Text.{with_sign}
use Rattle.grid.specs.Place.{IsGridNumber}
use Rattle.numerals.specs.Axis.{Axis, IsAxis, IsFit, IsSnappedAt, common_numerator, distance_at, places_of, value_at, value_dividend, value_divisor}
use Rattle.numerals.specs.Distance.{away, rounded_up}
use Rattle.numerals.specs.Nearest.{IsNearest}
use Rattle.numerals.specs.Numeral.{IsMeasure, IsNumeral, Measure}
use Rattle.numerals.specs.Whole.{numeral_size}
use Rattle.numerals.proofs.Places.{capped_times, few_zeros}
use Rattle.numerals.proofs.Steps.{IsMeasured, grid_size, pair, sign_times, size_of_sign}

-- a capped number with as many zeros, or thirty or more
capped_zeros : (n e u z r : ℕ) → u ≡ min n (10 ^ 30) → min z 30 ≡ min e 30 → r ≡ min (u * 10 ^ z) (10 ^ 30) → r ≡ min (n * 10 ^ e) (10 ^ 30)
capped_zeros n e u z r eu same er =
    er ∙ (ap (λ x. min (x * 10 ^ z) (10 ^ 30)) eu ∙ (capped_times n (10 ^ z) (ten_to_pos z) ∙ (sym (few_zeros n z) ∙ rw same (few_zeros n e))))

module _ (text other : List ℕ) (size u more : ℕ) (few : places_of text < 2 ^ 32) (eu : u ≡ min (numeral_size text) (10 ^ 30))
    (em : more ≡ min (places_of other) (10 ^ 30) - min (places_of text) (10 ^ 30)) (es : size ≡ min (u * 10 ^ more) (10 ^ 30)) where
  size_is : size ≡ min (numeral_size text * 10 ^ (places_of other - places_of text)) (10 ^ 30)
  size_is = capped_zeros (numeral_size text) (places_of other - places_of text) u more size eu (omega (arith, few, em)) es

  common_is : common_numerator text other ≡ with_sign (starts_with_minus text) (numeral_size text * 10 ^ (places_of other - places_of text))
  common_is = sign_times (starts_with_minus text) (numeral_size text) (10 ^ (places_of other - places_of text))

  common_size : unsigned_abs (common_numerator text other) ≡ numeral_size text * 10 ^ (places_of other - places_of text)
  common_size = ap unsigned_abs common_is ∙ size_of_sign (starts_with_minus text) _

  pub not_fit : 10 ^ 25 ≤ size → IsFit text other → ⊥
  not_fit long fit = omega (arith, long, size_is, common_size, fit.digits)

  pub fit : IsNumeral text → size < 10 ^ 25 → IsFit text other
  fit numeral short = record { numeral = numeral; places = few; digits = omega (arith, short, size_is, common_size) }

  pub fit_value : size < 10 ^ 25 → with_sign (starts_with_minus text) size ≡ common_numerator text other
  fit_value short =
      let same : size ≡ numeral_size text * 10 ^ (places_of other - places_of text) = omega (arith, short, size_is) in
      ap (with_sign (starts_with_minus text)) same ∙ sym common_is

-- a whole number by its sign and its size, times another
pub sized_times : (z : ℤ) (b : Bool) (t : ℕ) → (z ≡ with_sign b (unsigned_abs z)) → with_sign b (unsigned_abs z * t) ≡ z *ℤ pos t
sized_times z b t e = sym (ap (λ x. x *ℤ pos t) e ∙ sign_times b (unsigned_abs z) t)

pub sign_by : (z : ℤ) → z ≡ with_sign (lt_z z (pos 0)) (unsigned_abs z)
sign_by (pos n) = let e : nat_lt n 0 ≡ false = grind (arith, nat_tests) in ap (λ b. with_sign b n) (sym e)
sign_by (negsuc n) = refl

-- a number of so few digits fits 128 bits
pub fits_wide : (z : ℤ) → unsigned_abs z < 10 ^ 38 → FitsSigned w128 z
fits_wide (pos n) h = record { sfits = omega (arith, ints, h) }
fits_wide (negsuc n) h = record { sfits = omega (arith, ints, h) }

-- and is itself there
pub wide : (z : ℤ) → unsigned_abs z < 10 ^ 38 → to_z w128 (of_z w128 z) ≡ z
wide z h = to_z-of_z w128 z (fits_wide z h)

module _ (a : Axis) (n : ℤ) (h : IsAxis a) (g : IsGridNumber n) where
  pub product_bound : unsigned_abs (n *ℤ a.scale) ≤ 2 ^ 40 * 10 ^ 25
  product_bound =
      let product : unsigned_abs (n *ℤ a.scale) ≡ unsigned_abs n * unsigned_abs a.scale = unsigned_abs-mul n a.scale in
      let scale : unsigned_abs a.scale ≤ 10 ^ 25 = omega (arith, h.scale) in
      omega (arith, product, mul-le (unsigned_abs n) (unsigned_abs a.scale) (2 ^ 40) (10 ^ 25) (grid_size n g) scale)

  pub value_bound : unsigned_abs (value_at a n) < 10 ^ 38
  value_bound = sum_bound (n *ℤ a.scale) a.translate product_bound h.translate
    where
      sum_bound : (x y : ℤ) → unsigned_abs x ≤ 2 ^ 40 * 10 ^ 25 → unsigned_abs y < 10 ^ 25 → unsigned_abs (x +ℤ y) < 10 ^ 38
      sum_bound x y h k = omega (arith, ints, h, k)

pub grid_kept : (n : ℤ) → IsGridNumber n → to_z w64 (of_z w64 n) ≡ n
grid_kept (pos n) g = to_z-of_z w64 (pos n) (record { sfits = omega (arith, ints, g.low, g.high) })
grid_kept (negsuc n) g = to_z-of_z w64 (negsuc n) (record { sfits = omega (arith, ints, g.low, g.high) })

pub kept_wide : (a : Axis) (n z : ℤ) → IsAxis a → IsGridNumber n → z ≡ value_at a n → to_z w128 (of_z w128 z) ≡ value_at a n
kept_wide a n z h g e = ap (λ x. to_z w128 (of_z w128 x)) e ∙ wide (value_at a n) (value_bound a n h g)

-- what is measured of the value at a number of an axis
pub axis_measured : (a : Axis) (s : Measure) (n : ℤ) (b : Bool) (r : Option (ℤ × ℕ)) → value_at a n ≡ with_sign b (unsigned_abs (value_at a n))
    → ((p : ℤ) (x : ℕ) → (r ≡ pair p x) ↔ IsMeasured b (unsigned_abs (value_at a n) * 10 ^ s.places) (value_divisor a s) p x)
    → (p : ℤ) (x : ℕ) → (r ≡ pair p x) ↔ (IsSnappedAt a s n p × IsGridNumber p × (x ≡ distance_at a s n))
axis_measured a s n b r sign exact p x =
    let d = value_divisor a s in
    let value : with_sign b (unsigned_abs (value_at a n) * 10 ^ s.places) ≡ value_dividend a s n = sized_times (value_at a n) b (10 ^ s.places) sign in
    let size : unsigned_abs (value_at a n) * 10 ^ s.places ≡ unsigned_abs (value_dividend a s n) = sym (unsigned_abs-mul (value_at a n) (pos (10 ^ s.places))) in
    let far : rounded_up (10000 * away (unsigned_abs (value_at a n) * 10 ^ s.places) d) d ≡ distance_at a s n = ap (λ y. rounded_up (10000 * away y d) d) size in (
      λ q. let m = (exact p x).0 q in (subst (λ z. IsNearest z d p) value m.0, m.1, m.2 ∙ far),
      λ m. (exact p x).1 (subst (λ z. IsNearest z d p) (sym value) m.0, m.1, m.2 ∙ sym far),
    )

pub some_value_divisor : (a : Axis) (s : Measure) → IsMeasure s → 0 < value_divisor a s
some_value_divisor a s h = omega (arith, mul-le-mul_right (10 ^ a.places) h.some, ten_to_pos a.places)
