-- Positions out of numbers.
use Rattle.std.proofs.Common.{◌≡◌, ℤ, pos, negsuc, refl, sym, ap, ◌∙◌, arith, FitsSigned, to_z, of_z, w64}
use Rattle.std.proofs.lemmas.Int.{ints, fits_signed_from_abs, to_z-of_z}
use Rattle.grid.specs.Fits.{one_position}
use Rattle.grid.specs.Place.{IsGridNumber}
use Rattle.grid.specs.declared.pos.Pos.{Pos}
use Rattle.reading.specs.Positions.{clamped, position_at}

pub clamped-same : (n : ℤ) → IsGridNumber n → clamped n ≡ n
clamped-same (pos n) h = ap pos (grind (arith, ints, h.high))
clamped-same (negsuc n) h = ap negsuc (grind (arith, ints, h.low))

pub position_is : (q : Pos) (x y : ℤ) → q.x ≡ x → q.y ≡ y → IsGridNumber x → IsGridNumber y → q ≡ position_at x y
unfolding position_at
position_is q x y e f h k = one_position q (position_at x y) (e ∙ sym (clamped-same x h)) (f ∙ sym (clamped-same y k))

pub position_itself : (q : Pos) → q ≡ position_at q.x q.y
position_itself q = position_is q q.x q.y refl refl q.across q.along

pub number_fits : (n : ℤ) → IsGridNumber n → FitsSigned w64 n
number_fits n h = fits_signed_from_abs w64 n (grind (arith, ints, h.low, h.high))

-- the bits of a grid number read back
pub number_reads : (n : ℤ) → IsGridNumber n → to_z w64 (of_z w64 n) ≡ n
number_reads n h = to_z-of_z w64 n (number_fits n h)
