use Rattle.std.proofs.Common.{◌≡◌, ◌++◌, All, map}
use Rattle.serde_json.specs.View.{view}
use Rattle.fault_reports.specs.FaultReports.{reported_fault}
use Rattle.fault_reports.specs.ReportsOfTexts.{IsPlaceIn, IsReadAs, IsReport}
use Rattle.fault_reports.proofs.report.reports.Given as goal

abbrev pub invariant-loop-fault : goal.invariant-loop-fault
invariant-loop-fault l = record {
  all : (map reported_fault l.reports.items ++ l.fault-iterator.rest.items) ≡ l.fn.faults.items;
  reads : IsReadAs l.bytes (view l.value);
  places : All (IsPlaceIn l.bytes) l.places.rest.items;
  each : All (IsReport l.format l.bytes) l.reports.items;
}
