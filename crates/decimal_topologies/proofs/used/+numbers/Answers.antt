use Rattle.std.proofs.Common.{◌<◌, ◌≤◌, length, refl, ◌∙◌, rules}
use Rattle.std.proofs.lemmas.List.{drop_all}
use Rattle.json.specs.Tree.{depth, items_depth}
use Rattle.json.specs.Value.{value_view, items_view}
use Rattle.decimal_faults.proofs.Nested.{array_depth, item_depth}
use Rattle.decimal_topologies.specs.Used.{names_arc}
use Rattle.decimal_topologies.proofs.Marked.{here_is, list_is, marked_alike, marks_all, marks_more, marks_none, no_list, number_at, numbers_at}
use Rattle.decimal_topologies.proofs.used.+numbers.Goals as goal

pub mark_numbers-mark_each_number-requires : goal.mark_numbers-mark_each_number-requires
mark_numbers-mark_each_number-requires t c =
    let smaller : items_depth (items_view c.in-Some.items.now) < depth (value_view c.args.value.now) = array_depth _ _ c.in-Some.ensures in
    search rules

pub mark_each_number-mark_numbers-requires : goal.mark_each_number-mark_numbers-requires
mark_each_number-mark_numbers-requires t c =
    let smaller : depth (value_view c.index-values-i.result) ≤ items_depth (items_view c.args.values.now) = item_depth c.args.values.now c.loop-i.i c.index-values-i.result c.loop-i-test.true c.index-values-i.is in
    search rules

pub mark_each_number-loop-i-init : goal.mark_each_number-loop-i-init
mark_each_number-loop-i-init t c = marks_none number_at numbers_at c.args.values.now _

pub mark_each_number-loop-i-preserved : goal.mark_each_number-loop-i-preserved
mark_each_number-loop-i-preserved t c =
    marks_more number_at numbers_at (λ n k x xs. refl) c.args.values.now _ _ c.index-values-i.result _ _ _ (here_is c.args.values.now c.loop-i.i c.index-values-i.result c.loop-i-test.true c.index-values-i.is) c.loop-i.invariant c.mark_numbers.ensures

pub mark_each_number-returns : goal.mark_each_number-returns
mark_each_number-returns t c = marks_all number_at numbers_at (λ n k. refl) c.args.values.now _ _ _ (drop_all c.loop-i.i c.args.values.now c.loop-i-test.false) c.loop-i.invariant

pub mark_numbers-returns-in-Some : goal.mark_numbers-returns-in-Some
mark_numbers-returns-in-Some t c =
    c.mark_each_number.ensures ∙ marked_alike _ (λ k. names_arc (length c.args.used.now) k (value_view c.args.value.now)) 0 _ (λ k. list_is _ k (value_view c.args.value.now) _ c.in-Some.ensures)

pub mark_numbers-returns-in-None : goal.mark_numbers-returns-in-None
mark_numbers-returns-in-None t c =
    c.mark_number.ensures ∙ marked_alike _ (λ k. names_arc (length c.args.used.now) k (value_view c.args.value.now)) 0 _ (λ k. no_list _ k (value_view c.args.value.now) c.in-None.ensures)
