use Rattle.std.proofs.Common.{arith, ◌+ℤ◌, FitsSigned, w64, refl}
use Rattle.std.proofs.lemmas.Int.{ints, to_z-of_z}
use Rattle.grid.proofs.transform.absolute.Goals as goal

pub multiply-requires-clause-scale : goal.multiply-requires-clause-scale
multiply-requires-clause-scale c = rw (to_z-of_z w64 c.args.scale c.ranges.scale) c.requires.limits.scale

pub multiply-requires-clause-number : goal.multiply-requires-clause-number
multiply-requires-clause-number c = rw (to_z-of_z w64 c.args.n c.ranges.n) c.requires.number

pub overflow_add-result : goal.overflow_add-result
overflow_add-result c =
    let fm : FitsSigned w64 c.multiply.result = omega (arith, ints) in
    rw (to_z-of_z w64 c.multiply.result fm, to_z-of_z w64 c.args.translate c.ranges.translate) (omega (arith, ints, c.requires.limits.translate.low, c.requires.limits.translate.high, c.multiply.ensures.bound))

pub returns : goal.returns
returns c =
    let fm : FitsSigned w64 c.multiply.result = omega (arith, ints) in
    let fp : FitsSigned w64 (c.multiply.result +ℤ c.args.translate) = omega (arith, ints, c.requires.limits.translate.low, c.requires.limits.translate.high, c.multiply.ensures.bound) in
    rw (to_z-of_z w64 c.multiply.result fm, to_z-of_z w64 c.args.translate c.ranges.translate, to_z-of_z w64 (c.multiply.result +ℤ c.args.translate) fp, c.multiply.ensures.value, to_z-of_z w64 c.args.n c.ranges.n, to_z-of_z w64 c.args.scale c.ranges.scale) refl
