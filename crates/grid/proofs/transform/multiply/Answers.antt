use Rattle.std.proofs.Common.{arith, ◌*ℤ◌, FitsSigned, w64, ◌≤◌, lit<, refl}
use Rattle.std.specs.Prelude.{unsigned_abs}
use Rattle.std.proofs.lemmas.Int.{ints, to_z-of_z, fits_signed_mul, unsigned_abs-mul}
use Rattle.grid.specs.declared.limits.TheConstants.{GREATEST_GRID_NUMBER, GREATEST_SCALE}
use Rattle.grid.proofs.transform.multiply.Goals as goal

pub returns-clause-value : goal.returns-clause-value
returns-clause-value c =
    let fp : FitsSigned w64 (c.args.n *ℤ c.args.scale) = fits_signed_mul w64 c.args.n c.args.scale (unsigned_abs GREATEST_GRID_NUMBER) (unsigned_abs GREATEST_SCALE) (omega (arith, ints)) (omega (arith, ints)) (lit< tt) in
    rw (to_z-of_z w64 c.args.n c.ranges.n, to_z-of_z w64 c.args.scale c.ranges.scale, to_z-of_z w64 (c.args.n *ℤ c.args.scale) fp) refl

pub returns-clause-bound : goal.returns-clause-bound
returns-clause-bound c =
    let fp : FitsSigned w64 (c.args.n *ℤ c.args.scale) = fits_signed_mul w64 c.args.n c.args.scale (unsigned_abs GREATEST_GRID_NUMBER) (unsigned_abs GREATEST_SCALE) (omega (arith, ints)) (omega (arith, ints)) (lit< tt) in
    let a : unsigned_abs c.args.n ≤ unsigned_abs GREATEST_GRID_NUMBER = omega (arith, ints) in
    let b : unsigned_abs c.args.scale ≤ unsigned_abs GREATEST_SCALE = omega (arith, ints) in
    rw (to_z-of_z w64 c.args.n c.ranges.n, to_z-of_z w64 c.args.scale c.ranges.scale, to_z-of_z w64 (c.args.n *ℤ c.args.scale) fp, unsigned_abs-mul c.args.n c.args.scale) (grind arith)
