use Rattle.std.proofs.Common.{◌+◌, ◌*◌, drop}
use Rattle.json.specs.Tree.{depth, items_depth, members_depth}
use Rattle.json.specs.Value.{value_view, items_view, members_view}
use Rattle.decimal_topologies.proofs.Marked.{Marks, geometry_at, geometries_at, member_at, members_at}
use Rattle.decimal_topologies.proofs.used.+geometries.Given as goal

abbrev pub decreases-mark_geometry : goal.decreases-mark_geometry
decreases-mark_geometry l = 4 * depth (value_view l.value.now) + 1

abbrev pub decreases-mark_members : goal.decreases-mark_members
decreases-mark_members l = 4 * members_depth (members_view l.members.now) + 4

abbrev pub decreases-mark_member : goal.decreases-mark_member
decreases-mark_member l = 4 * depth (value_view l.value.now) + 3

abbrev pub decreases-mark_list : goal.decreases-mark_list
decreases-mark_list l = 4 * depth (value_view l.value.now) + 2

abbrev pub decreases-mark_each : goal.decreases-mark_each
decreases-mark_each l = 4 * items_depth (items_view l.values.now) + 2

abbrev pub invariant-mark_each-loop-i : goal.invariant-mark_each-loop-i
invariant-mark_each-loop-i l = Marks geometry_at geometries_at l.values (drop l.i l.values) l.initial.used l.used

abbrev pub invariant-mark_members-loop-i : goal.invariant-mark_members-loop-i
invariant-mark_members-loop-i l = Marks member_at members_at l.members (drop l.i l.members) l.initial.used l.used
