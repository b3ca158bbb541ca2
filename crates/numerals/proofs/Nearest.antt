-- Numbers rounded to the nearest, by their size and with their sign.
use Rattle.std.proofs.Common.{◌≡◌, ℕ, zero, suc, ◌+◌, ◌*◌, ◌/◌, ◌<◌, ◌^◌, ◌≤◌, Bool, true, false, ℤ, pos, negsuc, ◌-ℤ◌, ◌*ℤ◌, ◌⊎◌, inl, inr, refl, zero-mul, arith, mul-le-mul_right}
use Rattle.std.proofs.lemmas.Bool.{cases_lt}
use Rattle.std.proofs.lemmas.Int.{ints}
use Rattle.std.proofs.lemmas.Nat.{div-add-mod', mod_below}
use Rattle.std.specs.Prelude.{unsigned_abs}
use Rattle.fast_float.specs.Text.{with_sign}
use Rattle.numerals.specs.Distance.{AreTenThousandths}
use Rattle.numerals.specs.Nearest.{IsNearest, IsRounded}

not_above : (n d q r : ℕ) → IsRounded n d q → IsRounded n d r → q ≤ r
not_above n d q r a b =
    elim (cases_lt r q) [
      | inl h ↦ let more : r + 1 ≤ q = omega arith in absurd (omega (arith, a.low, b.high, mul-le-mul_right d more))
      | inr h ↦ h
    ]

pub one_rounded : (n d q r : ℕ) → IsRounded n d q → IsRounded n d r → q ≡ r
one_rounded n d q r a b = omega (arith, not_above n d q r a b, not_above n d r q b a)

-- a negative number times another
pub below_times : (q d : ℕ) → with_sign true q *ℤ pos d ≡ with_sign true (q * d)
below_times zero d = rw zero-mul refl
below_times (suc k) d = refl

pub to_nearest : (negative : Bool) (n d q : ℕ) → IsRounded n d q → IsNearest (with_sign negative n) d (with_sign negative q)
to_nearest false n d q r = record { within = omega (arith, ints, r.low, r.high); tie = λ e. omega (arith, ints, r.low, r.high, e) }
to_nearest true n d q r = record {
  within = rw below_times (omega (arith, ints, r.low, r.high));
  tie = rw below_times (λ e. omega (arith, ints, r.low, r.high, e));
}

nearer_or_farther : (n : ℤ) (d : ℕ) (p : ℤ) → IsNearest n d p
    → (2 * unsigned_abs (n -ℤ (p *ℤ pos d)) < d) ⊎ (unsigned_abs n ≤ unsigned_abs (p *ℤ pos d))
nearer_or_farther n d p a =
    elim (cases_lt (2 * unsigned_abs (n -ℤ (p *ℤ pos d))) d) [
      | inl less ↦ inl less
      | inr more ↦ inr (a.tie (omega (arith, a.within)))
    ]

pub from_nearest : (negative : Bool) (n d : ℕ) (p : ℤ) → 0 < d → IsNearest (with_sign negative n) d p
    → IsRounded n d (unsigned_abs p) × (p ≡ with_sign negative (unsigned_abs p))
from_nearest false n d (pos q) h a = (
  elim (nearer_or_farther (pos n) d (pos q) a) [
    | inl less ↦ record { low = omega (arith, ints, a.within); high = omega (arith, ints, less) }
    | inr far ↦ record { low = omega (arith, ints, a.within); high = omega (arith, ints, far) }
  ],
  refl,
)
from_nearest false n d (negsuc k) h a = absurd (omega (arith, ints, a.within))
from_nearest true n d (pos zero) h a = (
  elim (nearer_or_farther (with_sign true n) d (pos zero) a) [
    | inl less ↦ record { low = omega (arith, ints, a.within); high = omega (arith, ints, less) }
    | inr far ↦ record { low = omega (arith, ints, a.within); high = omega (arith, ints, far) }
  ],
  refl,
)
from_nearest true n d (pos (suc k)) h a = absurd (omega (arith, ints, a.within))
from_nearest true n d (negsuc k) h a = (
  elim (nearer_or_farther (with_sign true n) d (negsuc k) a) [
    | inl less ↦ record { low = omega (arith, ints, a.within); high = omega (arith, ints, less) }
    | inr far ↦ record { low = omega (arith, ints, a.within); high = omega (arith, ints, far) }
  ],
  refl,
)

-- ten-thousandths, rounded to whole numbers
pub rounded_parts : (n d k : ℕ) → k * d ≤ 10000 * n → 10000 * n < (k + 1) * d → IsRounded n d ((k + 5000) / 10000)
rounded_parts n d k low high =
    let q = (k + 5000) / 10000 in
    let under : q * 10000 ≤ k + 5000 = omega arith in
    let over : k + 5001 ≤ (q + 1) * 10000 = omega arith in
    record { low = omega (arith, low, mul-le-mul_right d under); high = omega (arith, high, mul-le-mul_right d over) }

-- so many that the limits are passed
rounded_far : (n d k r : ℕ) → 0 < d → 10 ^ 17 ≤ k → k * d ≤ 10000 * n → IsRounded n d r → 2 ^ 40 < r
rounded_far n d k r some far low a =
    elim (cases_lt (2 ^ 40) r) [
      | inl h ↦ h
      | inr few ↦ let next : r + 1 ≤ 2 ^ 40 + 1 = omega arith in absurd (omega (arith, some, low, a.high, mul-le-mul_right d far, mul-le-mul_right d next))
    ]

pub within : (n d k : ℕ) (e : Bool) → AreTenThousandths n d k e → (k + 5000) / 10000 ≤ 2 ^ 40 → IsRounded n d ((k + 5000) / 10000)
within n d k e h few = rounded_parts n d k h.low (h.high (omega arith))

pub beyond : (n d k r : ℕ) (e : Bool) → 0 < d → AreTenThousandths n d k e → 2 ^ 40 < (k + 5000) / 10000 → IsRounded n d r → 2 ^ 40 < r
beyond n d k r e some h many a =
    elim (cases_lt k (10 ^ 17)) [
      | inl less ↦ omega (arith, many, one_rounded n d _ r (rounded_parts n d k h.low (h.high less)) a)
      | inr far ↦ rounded_far n d k r some far h.low a
    ]

-- halves over twice the size, rounded down
pub rounded_halves_of : (n d : ℕ) → 0 < d → IsRounded n d ((n * 2 + d) / (d * 2))
rounded_halves_of n d some =
    let q = (n * 2 + d) / (d * 2) in
    let split = div-add-mod' (n * 2 + d) (d * 2) in
    let rest = mod_below (n * 2 + d) (d * 2) (omega arith) in
    record { low = omega (arith, split, rest); high = omega (arith, split, rest) }
