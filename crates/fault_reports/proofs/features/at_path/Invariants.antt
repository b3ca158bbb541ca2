use Rattle.std.proofs.Common.{◌≡◌, drop, map}
use Rattle.faults.specs.Fault.{turn_of}
use Rattle.serde_json.specs.View.{view}
use Rattle.fault_reports.specs.FaultyFeatures.{value_at}
use Rattle.fault_reports.proofs.features.at_path.Given as goal

abbrev pub invariant-loop-step : goal.invariant-loop-step
invariant-loop-step l = value_at (map turn_of l.path) (view l.value) ≡ value_at (map turn_of (drop l.step-index l.path)) (view l.here)
