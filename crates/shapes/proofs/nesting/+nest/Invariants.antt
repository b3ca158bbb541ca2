use Rattle.std.proofs.Common.{◌≤◌, ◌↔◌, drop}
use Rattle.serde_json.specs.Data.{items_depth, members_depth}
use Rattle.serde_json.specs.View.{items_view, members_view}
use Rattle.shapes.proofs.nesting.+nest.Given as goal

abbrev pub invariant-items_nest_within-loop-item : goal.invariant-items_nest_within-loop-item
invariant-items_nest_within-loop-item l = (items_depth (items_view l.fn.items.items) ≤ l.limit) ↔ (items_depth (items_view (drop l.item-index l.item-items)) ≤ l.limit)

abbrev pub invariant-members_nest_within-loop-member : goal.invariant-members_nest_within-loop-member
invariant-members_nest_within-loop-member l = (members_depth (members_view l.fn.members.entries) ≤ l.limit) ↔ (members_depth (members_view l.member-iterator) ≤ l.limit)
