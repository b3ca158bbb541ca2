use Rattle.std.proofs.Common.{ap}
use Rattle.arcs.specs.ArcTexts.{arc_positions}
use Rattle.sinks.proofs.Left.{then_err_at, part_at}
use Rattle.arcs.proofs.writing.ArcPositionsWritten.write.Goals as goal

pub returns-in-Ok-clause-part : goal.returns-in-Ok-clause-part
returns-in-Ok-clause-part g c = then_err_at _ _ _ (ap arc_positions c.in-Some.ensures.cases.0) c.in-Ok.ensures.whole c.write_differences.ensures.part

pub returns-in-Err-clause-part : goal.returns-in-Err-clause-part
returns-in-Err-clause-part g c = part_at _ (ap arc_positions c.in-Some.ensures.cases.0) c.in-Err.ensures.part
