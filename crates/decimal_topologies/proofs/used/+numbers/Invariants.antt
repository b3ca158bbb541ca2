use Rattle.std.proofs.Common.{◌+◌, ◌*◌, drop}
use Rattle.json.specs.Tree.{depth, items_depth}
use Rattle.json.specs.Value.{value_view, items_view}
use Rattle.decimal_topologies.proofs.Marked.{Marks, number_at, numbers_at}
use Rattle.decimal_topologies.proofs.used.+numbers.Given as goal

abbrev pub decreases-mark_numbers : goal.decreases-mark_numbers
decreases-mark_numbers l = 2 * depth (value_view l.value.now) + 1

abbrev pub decreases-mark_each_number : goal.decreases-mark_each_number
decreases-mark_each_number l = 2 * items_depth (items_view l.values.now) + 2

abbrev pub invariant-mark_each_number-loop-i : goal.invariant-mark_each_number-loop-i
invariant-mark_each_number-loop-i l = Marks number_at numbers_at l.values (drop l.i l.values) l.initial.used l.used
