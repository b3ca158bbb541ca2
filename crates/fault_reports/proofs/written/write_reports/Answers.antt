use Rattle.std.proofs.Common.{[], refl, rules}
use Rattle.sinks.proofs.Writes.{up_to_start}
use Rattle.fault_reports.proofs.FirstReportsLemmas.{all_written, all_counted, next_part, next_written}
use Rattle.fault_reports.proofs.written.write_reports.Goals as goal

pub loop-report-init : goal.loop-report-init
loop-report-init g c = record { before = []; splits = refl; counts = c.none-counts.ensures; took = up_to_start _ _ }

pub loop-report-preserved : goal.loop-report-preserved
loop-report-preserved g c = next_written c.in-Some.report.now c.in-Some.after.now c.of.result _ _ c.loop-report.invariant c.in-Some.ensures.cases.0 (search rules) c.of.ensures c.in-Ok.ensures.whole c.add.ensures

pub returns-in-Err-clause-part : goal.returns-in-Err-clause-part
returns-in-Err-clause-part g c = next_part c.in-Some.report.now c.in-Some.after.now c.of.result _ c.loop-report.invariant c.in-Some.ensures.cases.0 c.of.ensures c.in-Err.ensures.part

pub returns-clause-counts : goal.returns-clause-counts
returns-clause-counts g c = all_counted c.loop-report.invariant (search rules)

pub returns-clause-whole : goal.returns-clause-whole
returns-clause-whole g c = all_written c.loop-report.invariant (search rules)
