use Rattle.std.proofs.Common.{length}
use Rattle.fault_reports.proofs.FirstReportsLemmas.{IsWrittenTo}
use Rattle.fault_reports.proofs.written.write_reports.Given as goal

abbrev pub invariant-loop-report : goal.invariant-loop-report
invariant-loop-report g l = IsWrittenTo l.limit l.file l.is_explained l.reports l.left l.counts (g.W.Sink.seen l.initial.sink) (g.W.Sink.seen l.sink)

abbrev pub decreases-loop-report : goal.decreases-loop-report
decreases-loop-report g l = length l.left
