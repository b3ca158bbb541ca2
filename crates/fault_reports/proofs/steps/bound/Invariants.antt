use Rattle.std.proofs.Common.{◌-◌}
use Rattle.fault_reports.proofs.steps.bound.Given as goal

abbrev pub decreases-search : goal.decreases-search
decreases-search l = l.high - l.low
