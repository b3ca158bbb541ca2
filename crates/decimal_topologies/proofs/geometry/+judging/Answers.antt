use Rattle.std.proofs.Common.{◌≡◌, ◌<◌, ◌≤◌, true, false, IfOk, is_some, sym, ap, ◌∙◌, subst, rules}
use Rattle.json.specs.Find.{as_object}
use Rattle.json.specs.Tree.{depth, items_depth}
use Rattle.json.specs.Value.{value_view, items_view}
use Rattle.reading.specs.FaultLists.Found.{pairs_of}
use Rattle.reading.specs.Parts.{typed_faults}
use Rattle.decimal_faults.proofs.Items.{judged_all}
use Rattle.decimal_faults.proofs.Nested.{array_depth, get_depth, item_depth}
use Rattle.decimal_topologies.specs.Geometries.{content_faults, form_under, geometry_faults, parts_of}
use Rattle.decimal_topologies.proofs.Faulty.{object_none, object_some}
use Rattle.decimal_topologies.proofs.Nested.{each_is, geometry_is, list_is, no_list}
use Rattle.decimal_topologies.proofs.geometry.+judging.Goals as goal

pub judge_collection-judge_geometries-requires : goal.judge_collection-judge_geometries-requires
judge_collection-judge_geometries-requires t c =
    let smaller : depth (value_view c.in-Some.list.now) < depth (value_view c.args.value.now) = get_depth _ _ _ c.in-Some.ensures in
    search rules

pub judge_geometries-judge_each-requires : goal.judge_geometries-judge_each-requires
judge_geometries-judge_each-requires t c =
    let smaller : items_depth (items_view c.in-Some.items.now) < depth (value_view c.args.value.now) = array_depth _ _ c.in-Some.ensures in
    search rules

pub judge_each-judge_geometry-requires : goal.judge_each-judge_geometry-requires
judge_each-judge_geometry-requires t c =
    let smaller : depth (value_view c.index-values-i.result) ≤ items_depth (items_view c.args.values.now) = item_depth c.args.values.now c.loop-i.i c.index-values-i.result c.loop-i-test.true c.index-values-i.is in
    search rules

pub judge_each-returns : goal.judge_each-returns
judge_each-returns t c =
    let of = geometry_faults (parts_of c.args.topology.now) c.args.fixing.now in
    judged_all of c.args.values.now 0 c.loop-i.i (pairs_of c.loop-i.found.items) c.loop-i-test.false c.loop-i.invariant ∙ sym (each_is (parts_of c.args.topology.now) c.args.fixing.now 0 (items_view c.args.values.now))

pub judge_geometries-returns-in-Some : goal.judge_geometries-returns-in-Some
judge_geometries-returns-in-Some t c =
    subst (λ ps. IfOk c.judge_each.result (λ fs. pairs_of fs.items ≡ ps)) (sym (list_is (parts_of c.args.topology.now) c.args.fixing.now (value_view c.args.value.now) _ c.in-Some.ensures)) c.judge_each.ensures

pub judge_geometries-returns-in_ok-one-in-None : goal.judge_geometries-returns-in_ok-one-in-None
judge_geometries-returns-in_ok-one-in-None t c =
    c.in_ok-one-in-None.ensures.same ∙ sym (no_list (parts_of c.args.topology.now) c.args.fixing.now (value_view c.args.value.now) c.in-None.ensures)

pub judge_geometry-returns-then-not-is_object : goal.judge_geometry-returns-then-not-is_object
judge_geometry-returns-then-not-is_object t c =
    let p = parts_of c.args.topology.now in
    let j = value_view c.args.value.now in
    let other : is_some (as_object j) ≡ false = cc in
    c.in_ok-one.ensures.same ∙ sym (geometry_is p c.args.fixing.now j ∙ object_none (typed_faults (content_faults p c.args.fixing.now j) (form_under c.args.fixing.now j)) (as_object j) other)

pub judge_geometry-returns-in-Ok : goal.judge_geometry-returns-in-Ok
judge_geometry-returns-in-Ok t c =
    let p = parts_of c.args.topology.now in
    let j = value_view c.args.value.now in
    let some : is_some (as_object j) ≡ true = cc in
    subst (λ ps. IfOk c.judge_content.result (λ fs. pairs_of fs.items ≡ ps))
    (sym (geometry_is p c.args.fixing.now j ∙ object_some (typed_faults (content_faults p c.args.fixing.now j) (form_under c.args.fixing.now j)) (as_object j) some
    ∙ ap (typed_faults (content_faults p c.args.fixing.now j)) (sym c.form_under.ensures ∙ c.in-Ok.is))) c.judge_content.ensures

pub judge_geometry-returns-in_ok-type_fault-in-Err : goal.judge_geometry-returns-in_ok-type_fault-in-Err
judge_geometry-returns-in_ok-type_fault-in-Err t c =
    let p = parts_of c.args.topology.now in
    let j = value_view c.args.value.now in
    let some : is_some (as_object j) ≡ true = cc in
    c.in_ok-type_fault-in-Err.ensures.same
    ∙ sym (geometry_is p c.args.fixing.now j ∙ object_some (typed_faults (content_faults p c.args.fixing.now j) (form_under c.args.fixing.now j)) (as_object j) some
    ∙ ap (typed_faults (content_faults p c.args.fixing.now j)) (sym c.form_under.ensures ∙ c.in-Err.is))
