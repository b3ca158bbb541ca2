use Rattle.std.proofs.Common.{◌<◌, length}
use Rattle.fault_reports.proofs.unexpected.+pass_value.Given as goal

abbrev pub decreases-pass_value : goal.decreases-pass_value
decreases-pass_value l = l.left

abbrev pub invariant-items : goal.invariant-items
invariant-items l = length l.reader < length l.fn.reader

abbrev pub decreases-items : goal.decreases-items
decreases-items l = length l.reader

abbrev pub invariant-members : goal.invariant-members
invariant-members l = length l.reader < length l.fn.reader

abbrev pub decreases-members : goal.decreases-members
decreases-members l = length l.reader
