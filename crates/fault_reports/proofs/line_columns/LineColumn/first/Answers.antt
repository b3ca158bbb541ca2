use Rattle.std.proofs.Common.{refl}
use Rattle.fault_reports.specs.LineColumns.{last_line, place_behind}
use Rattle.fault_reports.proofs.line_columns.LineColumn.first.Goals as goal

pub returns : goal.returns
unfolding place_behind last_line
returns c = refl
