use Rattle.std.proofs.Common.{◌≡◌}
use Rattle.serde_json.specs.View.{members_view}
use Rattle.fault_reports.specs.FaultyFeatures.{first_fraction}
use Rattle.fault_reports.proofs.features.first_fraction.Given as goal

abbrev pub invariant-loop-name : goal.invariant-loop-name
invariant-loop-name l = first_fraction (members_view l.fn.members.entries) ≡ first_fraction (members_view l.name-iterator)
