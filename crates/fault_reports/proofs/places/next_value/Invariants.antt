use Rattle.std.proofs.Common.{length, ◌-◌, ◌≤◌}
use Rattle.fault_reports.proofs.places.next_value.Given as goal

abbrev pub invariant-blanks : goal.invariant-blanks
invariant-blanks l = l.at ≤ length l.bytes

abbrev pub decreases-blanks : goal.decreases-blanks
decreases-blanks l = length l.bytes - l.at
