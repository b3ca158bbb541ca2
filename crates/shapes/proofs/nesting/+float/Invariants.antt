use Rattle.std.proofs.Common.{◌≡◌, drop}
use Rattle.serde_json.specs.Written.{items_have_float, members_have_float}
use Rattle.serde_json.specs.View.{items_view, members_view}
use Rattle.shapes.proofs.nesting.+float.Given as goal

abbrev pub invariant-item_has_fraction-loop-item : goal.invariant-item_has_fraction-loop-item
invariant-item_has_fraction-loop-item l = items_have_float (items_view l.fn.items.items) ≡ items_have_float (items_view (drop l.item-index l.item-items))

abbrev pub invariant-member_has_fraction-loop-member : goal.invariant-member_has_fraction-loop-member
invariant-member_has_fraction-loop-member l = members_have_float (members_view l.fn.members.entries) ≡ members_have_float (members_view l.member-iterator)
