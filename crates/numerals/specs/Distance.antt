-- How far numerals are from the nearest whole number of steps.
use Rattle.std.specs.Prelude.{◌≡◌, ◌↔◌, ℕ, ◌+◌, ◌-◌, ◌*◌, ◌/◌, ◌%◌, ◌^◌, ◌<◌, ◌≤◌, min, IsTrue, Bool, List, unsigned_abs}
use Rattle.numerals.specs.Numeral.{Measure, dividend, divisor}

-- n / d is so much over d from the nearest whole number
abbrev pub away : ℕ → ℕ → ℕ
away n d = min (n % d) (d - n % d)

-- n / d rounded up
abbrev pub rounded_up : ℕ → ℕ → ℕ
rounded_up n d = (n + (d - 1)) / d

-- how far a numeral is from the nearest whole number of steps, in ten-thousandths of a step, rounded up
abbrev pub distance_of : Measure → List ℕ → ℕ
distance_of s text = rounded_up (10000 * away (unsigned_abs (dividend s text)) (divisor s text)) (divisor s text)

-- n / d is k ten-thousandths rounded down, and is just that or not; from 10 ^ 17 on it is that many or more
pub record AreTenThousandths (n d k : ℕ) (exact : Bool) : Type 0 where
  pub limit : k ≤ 10 ^ 17
  pub low : k * d ≤ 10000 * n
  pub high : k < 10 ^ 17 → 10000 * n < (k + 1) * d
  pub is_exact : k < 10 ^ 17 → IsTrue exact ↔ (10000 * n ≡ k * d)
