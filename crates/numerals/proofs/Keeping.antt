-- What snapping keeps.
use Rattle.std.proofs.Common.{◌≡◌, ℕ, suc, ◌+◌, ◌*◌, ◌^◌, ◌<◌, ◌≤◌, true, false, ℤ, pos, negsuc, ◌-ℤ◌, ◌*ℤ◌, ◌≤ℤ◌, inl, inr, List, sym, ap, ◌∙◌, arith, mul-le-mul_right}
use Rattle.std.proofs.lemmas.Bool.{cases_lt}
use Rattle.std.proofs.lemmas.Int.{ints, unsigned_abs-mul}
use Rattle.std.specs.Prelude.{unsigned_abs}
use Rattle.fast_float.specs.Text.{with_sign}
use Rattle.grid.proofs.Multiples.{difference_times, times_order}
use Rattle.numerals.specs.Laws.{EqualNumeralsSnapAlike, OrderIsKept, GridStays}
use Rattle.numerals.specs.Nearest.{IsNearest, IsRounded}
use Rattle.numerals.specs.Numeral.{Measure, numerator, denominator, dividend, divisor}
use Rattle.numerals.proofs.Nearest.{below_times, from_nearest}
use Rattle.numerals.proofs.Steps.{some_divisor}

pub swap : (p : ℤ) (a b : ℕ) → (p *ℤ pos a) *ℤ pos b ≡ (p *ℤ pos b) *ℤ pos a
swap (pos q) a b = ap pos (omega arith)
swap (negsuc k) a b = below_times (suc k * a) b ∙ (ap (with_sign true) (omega arith) ∙ sym (below_times (suc k * b) a))

join : (p : ℤ) (a b : ℕ) → (p *ℤ pos a) *ℤ pos b ≡ p *ℤ pos (a * b)
join (pos q) a b = ap pos (omega arith)
join (negsuc k) a b = below_times (suc k * a) b ∙ ap (with_sign true) (omega arith)

cancel : (a b k : ℕ) → 0 < k → a * k ≤ b * k → a ≤ b
cancel a b k some h =
    elim (cases_lt b a) [
      | inl more ↦ let above : b + 1 ≤ a = omega arith in absurd (omega (arith, some, h, mul-le-mul_right k above))
      | inr less ↦ less
    ]

rounded_order : (a d p b e q : ℕ) → 0 < d → a * e ≤ b * d → IsRounded a d p → IsRounded b e q → p ≤ q
rounded_order a d p b e q some h r s =
    elim (cases_lt q p) [
      | inl more ↦
          let above : q + 1 ≤ p = omega arith in
          let high : 2 * b + e + 1 ≤ 2 * ((q + 1) * e) = omega (arith, s.high) in
          absurd (omega (arith, some, h, mul-le-mul_right d above, mul-le-mul_right e r.low, mul-le-mul_right d high, mul-le-mul_right e (mul-le-mul_right d above)))
      | inr less ↦ less
    ]

nearest_order : (m n : ℤ) (d e : ℕ) (p q : ℤ) → 0 < d → 0 < e → (m *ℤ pos e) ≤ℤ (n *ℤ pos d) → IsNearest m d p → IsNearest n e q → p ≤ℤ q
nearest_order (pos a) (pos b) d e p q i j h r s =
    let x = from_nearest false a d p i r in
    let y = from_nearest false b e q j s in
    omega (arith, ints, x.1, y.1, rounded_order a d (unsigned_abs p) b e (unsigned_abs q) i (omega (arith, ints, h)) x.0 y.0)
nearest_order (negsuc a) (pos b) d e p q i j h r s =
    let x = from_nearest true (suc a) d p i r in
    let y = from_nearest false b e q j s in
    omega (arith, ints, x.1, y.1)
nearest_order (pos a) (negsuc b) d e p q i j h r s =
    let some : 1 ≤ suc b = omega arith in
    absurd (omega (arith, ints, rw (below_times (suc b) d) at h, i, mul-le-mul_right d some))
nearest_order (negsuc a) (negsuc b) d e p q i j h r s =
    let x = from_nearest true (suc a) d p i r in
    let y = from_nearest true (suc b) e q j s in
    omega (
      arith,
      ints,
      x.1,
      y.1,
      rounded_order (suc b) e (unsigned_abs q) (suc a) d (unsigned_abs p) j
          (omega (arith, ints, rw (below_times (suc a) e, below_times (suc b) d) at h)) y.0 x.0,
    )

-- what is compared of two numerals, in steps
crossed : (s : Measure) (a b : List ℕ) → dividend s a *ℤ pos (divisor s b) ≡ (numerator a *ℤ pos (denominator b)) *ℤ pos (10 ^ s.places * s.size)
crossed s a b =
    let n = numerator a in
    let t = 10 ^ s.places in
    join n t (s.size * denominator b) ∙ (ap (λ x. n *ℤ pos x) (omega arith) ∙ sym (join n (denominator b) (t * s.size)))

pub order_is_kept : OrderIsKept
order_is_kept s a b p q h e r t =
    nearest_order (dividend s a) (dividend s b) (divisor s a) (divisor s b) p q (some_divisor s a h) (some_divisor s b h)
    (rw (crossed s a b, crossed s b a) (times_order _ _ (pos (10 ^ s.places * s.size)) (omega (arith, ints)) e)) r t

pub grid_stays : GridStays
grid_stays s a p e = rw e (record { within = omega (arith, ints); tie = λ _. omega arith })

transfer : (m n : ℤ) (d e : ℕ) (p : ℤ) → 0 < d → 0 < e → m *ℤ pos e ≡ n *ℤ pos d → IsNearest m d p → IsNearest n e p
transfer m n d e p some some' same r =
    let x = m -ℤ (p *ℤ pos d) in
    let y = n -ℤ (p *ℤ pos e) in
    let times : x *ℤ pos e ≡ y *ℤ pos d =
    difference_times m (p *ℤ pos d) (pos e)
    ∙ (ap (λ z. z -ℤ ((p *ℤ pos d) *ℤ pos e)) same ∙ ap (λ z. (n *ℤ pos d) -ℤ z) (swap p d e)) ∙ sym (difference_times n (p *ℤ pos e) (pos d)) in
    let sizes : unsigned_abs x * e ≡ unsigned_abs y * d = sym (unsigned_abs-mul x (pos e)) ∙ (ap unsigned_abs times ∙ unsigned_abs-mul y (pos d)) in
    let worths : unsigned_abs m * e ≡ unsigned_abs n * d = sym (unsigned_abs-mul m (pos e)) ∙ (ap unsigned_abs same ∙ unsigned_abs-mul n (pos d)) in
    let places : unsigned_abs (p *ℤ pos d) * e ≡ unsigned_abs (p *ℤ pos e) * d =
    sym (unsigned_abs-mul (p *ℤ pos d) (pos e)) ∙ (ap unsigned_abs (swap p d e) ∙ unsigned_abs-mul (p *ℤ pos e) (pos d)) in
    record {
      within = cancel (2 * unsigned_abs y) e d some (omega (arith, sizes, mul-le-mul_right e r.within));
      tie = λ t.
          let half : 2 * unsigned_abs y * d ≡ e * d = ap (λ z. z * d) t in
          let far = r.tie (omega (arith, r.within, cancel d (2 * unsigned_abs x) e some' (omega (arith, sizes, half)))) in
          cancel (unsigned_abs n) (unsigned_abs (p *ℤ pos e)) d some (omega (arith, worths, places, mul-le-mul_right e far));
    }

pub equal_numerals_snap_alike : EqualNumeralsSnapAlike
equal_numerals_snap_alike s a b p h e r =
    transfer (dividend s a) (dividend s b) (divisor s a) (divisor s b) p (some_divisor s a h) (some_divisor s b h)
    (crossed s a b ∙ (ap (λ x. x *ℤ pos (10 ^ s.places * s.size)) e ∙ sym (crossed s b a))) r
