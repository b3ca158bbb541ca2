-- Positions of numbers.
use Rattle.std.specs.Prelude.{ℤ, pos, negsuc, min, unsigned_abs, ◌-◌}
use Rattle.std.proofs.Common.{arith}
use Rattle.std.proofs.lemmas.Int.{ints}
use Rattle.grid.specs.declared.limits.TheConstants.{LEAST_GRID_NUMBER, GREATEST_GRID_NUMBER}
use Rattle.grid.specs.Place.{IsGridNumber}
use Rattle.grid.specs.declared.pos.Pos.{Pos}

-- the nearest number within the limits of grid numbers, so a grid number itself
abbrev pub clamped : ℤ → ℤ
clamped (pos n) = pos (min n (unsigned_abs GREATEST_GRID_NUMBER))
clamped (negsuc n) = negsuc (min n (unsigned_abs LEAST_GRID_NUMBER - 1))

pub clamped-fits : (n : ℤ) → IsGridNumber (clamped n)
clamped-fits (pos n) = record { low = omega (arith, ints); high = omega (arith, ints) }
clamped-fits (negsuc n) = record { low = omega (arith, ints); high = omega (arith, ints) }

-- the position of two grid numbers
unfoldable pub position_at : ℤ → ℤ → Pos
position_at x y = record { x = clamped x; y = clamped y; across = clamped-fits x; along = clamped-fits y }
