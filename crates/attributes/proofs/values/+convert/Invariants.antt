use Rattle.std.proofs.Common.{◌≡◌, ◌+◌, ◌≤◌, drop, length}
use Rattle.json.specs.Value.{items_view as json_items, members_view as json_members}
use Rattle.serde_json.specs.View.{members_view}
use Rattle.attributes.specs.Attributes.{counted}
use Rattle.attributes.specs.Values.{items_of, items_reals, members_of, members_reals}
use Rattle.attributes.proofs.Loops.{before}
use Rattle.attributes.proofs.values.+convert.Given as goal

abbrev pub invariant-convert_items-loop-item : goal.invariant-convert_items-loop-item
invariant-convert_items-loop-item l = record {
  made : before l.made.items (items_of l.rule (json_items (drop l.item-index l.items.items))) ≡ items_of l.rule (json_items l.items.items);
  reals : counted (l.reals + items_reals l.rule (json_items (drop l.item-index l.items.items))) ≡ counted (l.initial.reals + items_reals l.rule (json_items l.items.items));
}

abbrev pub invariant-convert_members-loop-left : goal.invariant-convert_members-loop-left
invariant-convert_members-loop-left l = record {
  within : l.left ≤ length l.members.items;
  made : members_view l.made.entries ≡ members_of l.rule l.scales (json_members (drop l.left l.members.items));
  reals : counted l.reals ≡ counted (l.initial.reals + members_reals l.rule l.scales (json_members (drop l.left l.members.items)));
}

abbrev pub decreases-convert_members-loop-left : goal.decreases-convert_members-loop-left
decreases-convert_members-loop-left l = l.left
