use Rattle.std.proofs.Common.{refl}
use Rattle.fault_reports.specs.FirstReports.{all_kinds}
use Rattle.fault_reports.proofs.more.all_kinds.Goals as goal

pub returns : goal.returns
unfolding all_kinds
returns c = refl
