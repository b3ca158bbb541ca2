use Rattle.faults.specs.declared.fault.FaultKind.TheVariants.{NotTwo}
use Rattle.reading.proofs.Least.{only_of}
use Rattle.reading.proofs.Lists.{not_two, first_refused, second_refused}
use Rattle.reading.proofs.part.read_two.Goals as goal

pub returns-then-values-ne2-clause-err : goal.returns-then-values-ne2-clause-err
returns-then-values-ne2-clause-err g c = only_of NotTwo _ c.here.result c.here.ensures (not_two _ _ c.args.values.now c.if-values-ne2.true)

pub returns-in-Err-clause-err : goal.returns-in-Err-clause-err
returns-in-Err-clause-err g c =
    first_refused _ _ c.args.values.now c.index-values-0.result c.in-Err.fault c.under_index.result c.if-values-ne2.false c.index-values-0.is c.in-Err.ensures.err c.under_index.ensures

pub returns-in-Err-read-clause-err : goal.returns-in-Err-read-clause-err
returns-in-Err-read-clause-err g c =
    second_refused _ _ c.args.values.now c.index-values-0.result c.index-values-1.result c.in-Err-read.fault c.under_index-in-Err-read.result c.if-values-ne2.false c.index-values-0.is c.index-values-1.is c.in-Ok.ensures.ok.0 c.in-Err-read.ensures.err c.under_index-in-Err-read.ensures
