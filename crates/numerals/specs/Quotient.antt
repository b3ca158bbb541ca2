-- Fractions of the same worth, and fractions rounded down.
use Rattle.std.specs.Prelude.{◌≡◌, ℕ, ◌+◌, ◌*◌, ◌<◌, ◌≤◌}

-- q is n / d rounded down
pub record IsQuotient (n d q : ℕ) : Type 0 where
  pub low : q * d ≤ n
  pub high : n < (q + 1) * d

-- m / e is a fraction, and worth n / d
pub record IsSameFraction (n d m e : ℕ) : Type 0 where
  pub some : 0 < e
  pub worth : n * e ≡ m * d
