use Rattle.std.proofs.Common.{length, nat_lt}
use Rattle.sinks.specs.Writes.{TookUpTo}
use Rattle.fault_reports.specs.FaultReports.{objects_text}
use Rattle.fault_reports.proofs.written.write_json.Given as goal

abbrev pub invariant-loop-report : goal.invariant-loop-report
invariant-loop-report g l = TookUpTo (g.W.Sink.seen l.initial.sink) (g.W.Sink.seen l.sink) (objects_text l.file l.is_explained (nat_lt 0 l.before) l.reports) (objects_text l.file l.is_explained l.is_behind l.left)

abbrev pub decreases-loop-report : goal.decreases-loop-report
decreases-loop-report g l = length l.left
