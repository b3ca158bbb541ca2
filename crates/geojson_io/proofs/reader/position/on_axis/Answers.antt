use Rattle.std.proofs.Common.{refl, sym, ap, arith}
use Rattle.std.proofs.lemmas.Int.{ints, to_z-of_z}
use Rattle.grid.specs.Place.{IsGridNumber}
use Rattle.faults.specs.declared.fault.FaultKind.TheVariants as kind
use Rattle.reading.proofs.Least.{only_of}
use Rattle.geojson_io.specs.Positions.{axis_faults, grid_faults}
use Rattle.geojson_io.proofs.reader.position.on_axis.Goals as goal

pub returns-in-Ok-clause-inside : goal.returns-in-Ok-clause-inside
returns-in-Ok-clause-inside c =
    let h : IsGridNumber c.in-Ok.number = ((c.in-Ok.ensures.exact c.in-Ok.number).0 refl).fits.number in
    record { low = grind (arith, ints, to_z-of_z, h.low, h.high); high = grind (arith, ints, to_z-of_z, h.low, h.high) }

pub returns-in-Err-OffGrid-clause-err : goal.returns-in-Err-OffGrid-clause-err
returns-in-Err-OffGrid-clause-err c =
    let told = rw c.in-Err-OffGrid.field-0-is at c.in-Err-OffGrid.ensures.computed in
    let is = simp (to_z-of_z, c.ranges.a) at told in
    only_of kind.OffGrid (axis_faults c.args.axis.now c.args.a) c.here.result c.here.ensures (ap grid_faults (sym is))

pub returns-in-Err-OutOfRange-clause-err : goal.returns-in-Err-OutOfRange-clause-err
returns-in-Err-OutOfRange-clause-err c =
    let told = rw c.in-Err-OutOfRange.field-0-is at c.in-Err-OutOfRange.ensures.computed in
    let is = simp (to_z-of_z, c.ranges.a) at told in
    only_of kind.OutOfRange (axis_faults c.args.axis.now c.args.a) c.here-in-Err-OutOfRange.result c.here-in-Err-OutOfRange.ensures (ap grid_faults (sym is))
