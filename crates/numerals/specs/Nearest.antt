-- The whole number nearest to a fraction.
use Rattle.std.specs.Prelude.{◌≡◌, ℕ, ℤ, pos, ◌+◌, ◌*◌, ◌<◌, ◌≤◌, ◌-ℤ◌, ◌*ℤ◌, unsigned_abs}

-- p is the whole number nearest to n / d: p * d is at most half of d away from n, and where it is just half,
-- so that two numbers are equally near, p is the one farther from 0
pub record IsNearest (n : ℤ) (d : ℕ) (p : ℤ) : Type 0 where
  pub within : 2 * unsigned_abs (n -ℤ (p *ℤ pos d)) ≤ d
  pub tie : 2 * unsigned_abs (n -ℤ (p *ℤ pos d)) ≡ d → unsigned_abs n ≤ unsigned_abs (p *ℤ pos d)

-- q is n / d rounded to the nearest, upward from half on
pub record IsRounded (n d q : ℕ) : Type 0 where
  pub low : 2 * (q * d) ≤ 2 * n + d
  pub high : 2 * n + d < 2 * ((q + 1) * d)
