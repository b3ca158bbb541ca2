use Rattle.std.proofs.Common.{ap}
use Rattle.fault_reports.specs.FaultReports.{objects_text}
use Rattle.sinks.proofs.Left.{left_step, left_part}
use Rattle.fault_reports.proofs.written.write_json.Goals as goal

pub loop-report-preserved : goal.loop-report-preserved
loop-report-preserved g c = left_step _ c.loop-report.invariant (ap (objects_text c.args.file.now c.args.is_explained c.loop-report.is_behind) c.in-Some.ensures.cases.0) c.in-Ok.ensures.whole

pub returns-in-Err-clause-part : goal.returns-in-Err-clause-part
returns-in-Err-clause-part g c = left_part _ c.loop-report.invariant (ap (objects_text c.args.file.now c.args.is_explained c.loop-report.is_behind) c.in-Some.ensures.cases.0) c.in-Err.ensures.part
