-- The distance is the least one.
use Rattle.std.proofs.Common.{◌≡◌, ℕ, zero, suc, ◌+◌, ◌-◌, ◌*◌, ◌/◌, ◌%◌, ◌<◌, ◌≤◌, ℤ, pos, negsuc, ◌-ℤ◌, ◌*ℤ◌, ◌⊎◌, inl, inr, ◌∙◌, arith, mul-le-mul_right, zero-mul}
use Rattle.std.proofs.lemmas.Bool.{cases_lt}
use Rattle.std.proofs.lemmas.Int.{ints}
use Rattle.std.proofs.lemmas.Nat.{div-add-mod', mod_below}
use Rattle.std.specs.Prelude.{unsigned_abs}
use Rattle.numerals.specs.Distance.{away, distance_of}
use Rattle.numerals.specs.Laws.{DistanceIsLeast}
use Rattle.numerals.specs.Numeral.{dividend, divisor}
use Rattle.numerals.proofs.Ceilings.{ceiling_of, one_left}
use Rattle.numerals.proofs.Nearest.{below_times}
use Rattle.numerals.proofs.Steps.{some_divisor}

-- no multiple of d is nearer to n
from_below : (n d k : ℕ) → 0 < d → k * d ≤ n → away n d ≤ n - k * d
from_below n d k some h =
    let split = div-add-mod' n d in
    let rest = mod_below n d some in
    elim (cases_lt (n / d) k) [
      | inl more ↦ let next : n / d + 1 ≤ k = omega arith in absurd (omega (arith, h, split, rest, mul-le-mul_right d next))
      | inr fewer ↦ omega (arith, split, mul-le-mul_right d fewer)
    ]

from_above : (n d k : ℕ) → 0 < d → n ≤ k * d → away n d ≤ k * d - n
from_above n d k some h =
    let split = div-add-mod' n d in
    let rest = mod_below n d some in
    elim (cases_lt (n / d) k) [
      | inl more ↦ let next : n / d + 1 ≤ k = omega arith in omega (arith, split, rest, mul-le-mul_right d next)
      | inr fewer ↦ omega (arith, h, split, mul-le-mul_right d fewer)
    ]

no_more : (n d : ℕ) → away n d ≤ n
no_more n d = omega (arith, div-add-mod' n d)

apart : (z p : ℤ) (d : ℕ) → 0 < d → away (unsigned_abs z) d ≤ unsigned_abs (z -ℤ (p *ℤ pos d))
apart (pos n) (pos k) d some =
    elim (cases_lt n (k * d)) [
      | inl less ↦ omega (arith, ints, from_above n d k some (omega arith))
      | inr more ↦ omega (arith, ints, from_below n d k some more)
    ]
apart (pos n) (negsuc k) d some = rw (below_times (suc k) d) (omega (arith, ints, no_more n d))
apart (negsuc m) (pos k) d some = omega (arith, ints, no_more (suc m) d)
apart (negsuc m) (negsuc k) d some =
    rw (below_times (suc k) d) (elim (cases_lt (suc m) (suc k * d)) [
      | inl less ↦ omega (arith, ints, from_above (suc m) d (suc k) some (omega arith))
      | inr more ↦ omega (arith, ints, from_below (suc m) d (suc k) some more)
    ])

-- a multiple of d that is x away, at most half of d
within_half : (n d q x : ℕ) → 0 < d → 2 * x ≤ d → (n ≡ q * d + x) ⊎ (n + x ≡ q * d) → x ≤ away n d
within_half n d q x some half (inl e) =
    let rest : n % d ≡ x = one_left (n / d) q d (n % d) x (mod_below n d some) (omega arith) (div-add-mod' n d ∙ e) in
    omega (arith, rest)
within_half n d zero x some half (inr e) = omega (arith, e, zero-mul d)
within_half n d (suc j) zero some half (inr e) = omega arith
within_half n d (suc j) (suc y) some half (inr e) =
    let rest : n % d ≡ d - suc y = one_left (n / d) j d (n % d) (d - suc y) (mod_below n d some) (omega arith) (div-add-mod' n d ∙ omega (arith, e, half)) in
    omega (arith, rest, half)

nearest_away : (z p : ℤ) (d : ℕ) → 0 < d → 2 * unsigned_abs (z -ℤ (p *ℤ pos d)) ≤ d → unsigned_abs (z -ℤ (p *ℤ pos d)) ≤ away (unsigned_abs z) d
nearest_away (pos n) (pos q) d some half =
    elim (cases_lt n (q * d)) [
      | inl less ↦ within_half n d q _ some half (inr (omega (arith, ints, less)))
      | inr more ↦ within_half n d q _ some half (inl (omega (arith, ints, more)))
    ]
nearest_away (pos n) (negsuc k) d some half =
    let one : 1 ≤ suc k = omega arith in
    absurd (omega (arith, ints, rw (below_times (suc k) d) at half, some, mul-le-mul_right d one))
nearest_away (negsuc m) (pos zero) d some half = within_half (suc m) d 0 _ some half (inl (omega (arith, ints, zero-mul d)))
nearest_away (negsuc m) (pos (suc q)) d some half =
    let one : 1 ≤ suc q = omega arith in
    absurd (omega (arith, ints, half, some, mul-le-mul_right d one))
nearest_away (negsuc m) (negsuc k) d some half =
    let times = below_times (suc k) d in
    elim (cases_lt (suc m) (suc k * d)) [
      | inl less ↦ within_half (suc m) d (suc k) _ some half (inr (omega (arith, ints, less, times)))
      | inr more ↦ within_half (suc m) d (suc k) _ some half (inl (omega (arith, ints, more, times)))
    ]

pub distance_is_least : DistanceIsLeast
distance_is_least s text p h =
    let n = unsigned_abs (dividend s text) in
    let d = divisor s text in
    let some = some_divisor s text h in
    let x = distance_of s text in
    let ceiling = ceiling_of (10000 * away n d) d some in (
      λ near. omega (arith, ceiling.low, nearest_away (dividend s text) p d some near.within),
      λ far within.
          elim (cases_lt far x) [
            | inl less ↦
                let next : far + 1 ≤ x = omega arith in
                absurd (omega (arith, ceiling.high, within, apart (dividend s text) p d some, mul-le-mul_right d next))
            | inr fine ↦ fine
          ],
    )
