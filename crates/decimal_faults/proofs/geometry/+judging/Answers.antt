use Rattle.std.proofs.Common.{◌≡◌, ◌<◌, ◌≤◌, true, false, Ok, IfOk, is_some, sym, ap, ◌∙◌, subst, rules}
use Rattle.json.specs.Find.{as_object}
use Rattle.json.specs.Tree.{depth, items_depth}
use Rattle.json.specs.Value.{value_view, items_view}
use Rattle.reading.specs.FaultLists.Found.{pairs_of}
use Rattle.decimal_faults.specs.Geometries.{geometry_faults}
use Rattle.decimal_faults.proofs.Items.{judged_all}
use Rattle.decimal_faults.proofs.Nested.{array_depth, each_is, get_depth, item_depth, list_is, no_list, no_object, simple_is, split_is, untyped_is, whole_is}
use Rattle.decimal_faults.proofs.geometry.+judging.Goals as goal

pub judge_collection-judge_geometries-requires : goal.judge_collection-judge_geometries-requires
judge_collection-judge_geometries-requires t c =
    let smaller : depth (value_view c.in-Some.list.now) < depth (value_view c.args.value.now) = get_depth _ _ _ c.in-Some.ensures in
    search rules

pub judge_geometries-judge_each-requires : goal.judge_geometries-judge_each-requires
judge_geometries-judge_each-requires t c =
    let smaller : items_depth (items_view c.in-Some.items.now) < depth (value_view c.args.value.now) = array_depth _ _ c.in-Some.ensures in
    search rules

pub judge_each-judge_geometry-requires : goal.judge_each-judge_geometry-requires
judge_each-judge_geometry-requires t c =
    let smaller : depth (value_view c.index-values-i.result) ≤ items_depth (items_view c.args.values.now) = item_depth c.args.values.now c.loop-i.i c.index-values-i.result c.loop-i-test.true c.index-values-i.is in
    search rules

pub judge_each-returns : goal.judge_each-returns
judge_each-returns t c =
    let of = geometry_faults c.args.grid.now c.args.fixing.now in
    judged_all of c.args.values.now 0 c.loop-i.i (pairs_of c.loop-i.found.items) c.loop-i-test.false c.loop-i.invariant ∙ sym (each_is c.args.grid.now c.args.fixing.now 0 (items_view c.args.values.now))

pub judge_geometries-returns-in-Some : goal.judge_geometries-returns-in-Some
judge_geometries-returns-in-Some t c =
    subst (λ ps. IfOk c.judge_each.result (λ fs. pairs_of fs.items ≡ ps)) (sym (list_is c.args.grid.now c.args.fixing.now (value_view c.args.value.now) _ c.in-Some.ensures)) c.judge_each.ensures

pub judge_geometries-returns-in_ok-one-in-None : goal.judge_geometries-returns-in_ok-one-in-None
judge_geometries-returns-in_ok-one-in-None t c =
    c.in_ok-one-in-None.ensures.same ∙ sym (no_list c.args.grid.now c.args.fixing.now (value_view c.args.value.now) c.in-None.ensures)

pub judge_geometry-returns-then-not-is_object : goal.judge_geometry-returns-then-not-is_object
judge_geometry-returns-then-not-is_object t c =
    let other : is_some (as_object (value_view c.args.value.now)) ≡ false = cc in
    c.in_ok-one.ensures.same ∙ sym (no_object c.args.grid.now c.args.fixing.now (value_view c.args.value.now) other)

pub judge_geometry-returns-in-Ok-Simple : goal.judge_geometry-returns-in-Ok-Simple
judge_geometry-returns-in-Ok-Simple t c =
    subst (λ ps. IfOk c.judge_member.result (λ fs. pairs_of fs.items ≡ ps))
    (sym (simple_is c.args.grid.now c.args.fixing.now (value_view c.args.value.now) c.in-Ok-Simple.kind (sym c.form_of.ensures ∙ (c.in-Ok-Simple.is ∙ ap Ok c.in-Ok-Simple.field-0-is)))) c.judge_member.ensures

pub judge_geometry-returns-in-Ok-Collection : goal.judge_geometry-returns-in-Ok-Collection
judge_geometry-returns-in-Ok-Collection t c =
    let splits : c.args.fixing.now.splits_collections ≡ true = cc in
    subst (λ ps. IfOk c.judge_collection.result (λ fs. pairs_of fs.items ≡ ps))
    (sym (split_is c.args.grid.now c.args.fixing.now (value_view c.args.value.now) splits (sym c.form_of.ensures ∙ (c.in-Ok-Collection.is ∙ ap Ok c.in-Ok-Collection.field-0-is)))) c.judge_collection.ensures

pub judge_geometry-returns-in_ok-type_fault-in-Ok-Collection-2 : goal.judge_geometry-returns-in_ok-type_fault-in-Ok-Collection-2
judge_geometry-returns-in_ok-type_fault-in-Ok-Collection-2 t c =
    let stays : c.args.fixing.now.splits_collections ≡ false = cc in
    c.in_ok-type_fault-in-Ok-Collection-2.ensures.same
    ∙ sym (whole_is c.args.grid.now c.args.fixing.now (value_view c.args.value.now) stays (sym c.form_of.ensures ∙ (c.in-Ok-Collection.is ∙ ap Ok c.in-Ok-Collection.field-0-is)))

pub judge_geometry-returns-in_ok-type_fault-in-Err : goal.judge_geometry-returns-in_ok-type_fault-in-Err
judge_geometry-returns-in_ok-type_fault-in-Err t c =
    let some : is_some (as_object (value_view c.args.value.now)) ≡ true = cc in
    c.in_ok-type_fault-in-Err.ensures.same ∙ sym (untyped_is c.args.grid.now c.args.fixing.now (value_view c.args.value.now) c.in-Err.kind some (sym c.form_of.ensures ∙ c.in-Err.is))
