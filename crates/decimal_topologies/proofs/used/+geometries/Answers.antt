use Rattle.std.proofs.Common.{◌≡◌, ◌<◌, ◌≤◌, bytes_eq, codes, false, length, refl, sym, ◌∙◌, rules}
use Rattle.std.proofs.lemmas.List.{drop_all}
use Rattle.json.specs.Tree.{depth, items_depth, members_depth}
use Rattle.json.specs.Value.{value_view, items_view, members_view}
use Rattle.decimal_faults.proofs.Nested.{array_depth, item_depth}
use Rattle.decimal_topologies.specs.Used.{list_uses_arc, member_uses_arc, uses_arc}
use Rattle.decimal_topologies.proofs.Marked.{geometries_are, geometries_at, geometry_at, here_is, marked_alike, marked_none, marks_all, marks_more, marks_none, member_at, member_depth, members_are, members_at, no_geometries, no_member, no_members, object_depth}
use Rattle.decimal_topologies.proofs.used.+geometries.Goals as goal

pub mark_geometry-mark_members-requires : goal.mark_geometry-mark_members-requires
mark_geometry-mark_members-requires t c =
    let smaller : members_depth (members_view c.in-Some.members.now) < depth (value_view c.args.value.now) = object_depth _ _ c.in-Some.ensures in
    search rules

pub mark_members-mark_member-requires : goal.mark_members-mark_member-requires
mark_members-mark_member-requires t c =
    let smaller : depth (value_view c.index-members-i.result.1) ≤ members_depth (members_view c.args.members.now) = member_depth c.args.members.now c.loop-i.i c.index-members-i.result c.loop-i-test.true c.index-members-i.is in
    search rules

pub mark_list-mark_each-requires : goal.mark_list-mark_each-requires
mark_list-mark_each-requires t c =
    let smaller : items_depth (items_view c.in-Some.items.now) < depth (value_view c.args.value.now) = array_depth _ _ c.in-Some.ensures in
    search rules

pub mark_each-mark_geometry-requires : goal.mark_each-mark_geometry-requires
mark_each-mark_geometry-requires t c =
    let smaller : depth (value_view c.index-values-i.result) ≤ items_depth (items_view c.args.values.now) = item_depth c.args.values.now c.loop-i.i c.index-values-i.result c.loop-i-test.true c.index-values-i.is in
    search rules

pub mark_each-loop-i-init : goal.mark_each-loop-i-init
mark_each-loop-i-init t c = marks_none geometry_at geometries_at c.args.values.now _

pub mark_each-loop-i-preserved : goal.mark_each-loop-i-preserved
mark_each-loop-i-preserved t c =
    marks_more geometry_at geometries_at (λ n k x xs. refl) c.args.values.now _ _ c.index-values-i.result _ _ _ (here_is c.args.values.now c.loop-i.i c.index-values-i.result c.loop-i-test.true c.index-values-i.is) c.loop-i.invariant c.mark_geometry.ensures

pub mark_each-returns : goal.mark_each-returns
mark_each-returns t c = marks_all geometry_at geometries_at (λ n k. refl) c.args.values.now _ _ _ (drop_all c.loop-i.i c.args.values.now c.loop-i-test.false) c.loop-i.invariant

pub mark_members-loop-i-init : goal.mark_members-loop-i-init
mark_members-loop-i-init t c = marks_none member_at members_at c.args.members.now _

pub mark_members-loop-i-preserved : goal.mark_members-loop-i-preserved
mark_members-loop-i-preserved t c =
    marks_more member_at members_at (λ n k x xs. refl) c.args.members.now _ _ c.index-members-i.result _ _ _ (here_is c.args.members.now c.loop-i.i c.index-members-i.result c.loop-i-test.true c.index-members-i.is) c.loop-i.invariant c.mark_member.ensures

pub mark_members-returns : goal.mark_members-returns
mark_members-returns t c = marks_all member_at members_at (λ n k. refl) c.args.members.now _ _ _ (drop_all c.loop-i.i c.args.members.now c.loop-i-test.false) c.loop-i.invariant

pub mark_geometry-returns-in-Some : goal.mark_geometry-returns-in-Some
mark_geometry-returns-in-Some t c =
    c.mark_members.ensures ∙ marked_alike _ (λ k. uses_arc (length c.args.used.now) k (value_view c.args.value.now)) 0 _ (λ k. members_are _ k (value_view c.args.value.now) _ c.in-Some.ensures)

pub mark_geometry-returns-in-None : goal.mark_geometry-returns-in-None
mark_geometry-returns-in-None t c =
    sym (marked_none (λ k. uses_arc (length c.args.used.now) k (value_view c.args.value.now)) 0 _ (λ k. no_members _ k (value_view c.args.value.now) c.in-None.ensures))

pub mark_list-returns-in-Some : goal.mark_list-returns-in-Some
mark_list-returns-in-Some t c =
    c.mark_each.ensures ∙ marked_alike _ (λ k. list_uses_arc (length c.args.used.now) k (value_view c.args.value.now)) 0 _ (λ k. geometries_are _ k (value_view c.args.value.now) _ c.in-Some.ensures)

pub mark_list-returns-in-None : goal.mark_list-returns-in-None
mark_list-returns-in-None t c =
    sym (marked_none (λ k. list_uses_arc (length c.args.used.now) k (value_view c.args.value.now)) 0 _ (λ k. no_geometries _ k (value_view c.args.value.now) c.in-None.ensures))

pub mark_member-returns-else-eq-2 : goal.mark_member-returns-else-eq-2
mark_member-returns-else-eq-2 t c =
    let other : bytes_eq c.args.name.now (codes "arcs") ≡ false = cc in
    let neither : bytes_eq c.args.name.now (codes "geometries") ≡ false = cc in
    sym (marked_none (λ k. member_uses_arc (length c.args.used.now) k c.args.name.now (value_view c.args.value.now)) 0 _ (λ k. no_member _ k c.args.name.now (value_view c.args.value.now) other neither))
