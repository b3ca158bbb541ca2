use Rattle.std.proofs.Common.{◌++◌, ◌∙◌, ap, sym}
use Rattle.faults.specs.Path.{index}
use Rattle.reading.specs.Fault.{under}
use Rattle.reading.specs.FaultLists.Found.{is_full, pairs_of}
use Rattle.reading.proofs.FaultListsLemmas.Wholes.{other_than_two, first_enough, both_found}
use Rattle.reading.proofs.fault_lists.judge.judge_two.Goals as goal

pub returns-then-values-ne2 : goal.returns-then-values-ne2
returns-then-values-ne2 g c = other_than_two c.args.wanted _ _ c.args.values.now _ c.if-values-ne2.true c.in_ok-found.ensures

pub returns-then-is_enough : goal.returns-then-is_enough
returns-then-is_enough g c =
    let put = c.in_ok-put_under_index.ensures ∙ ap (λ fs. pairs_of fs ++ under (index 0) (pairs_of c.in_ok-x.x.items)) c.new-found.ensures.items in
    let full = ap (λ fs. is_full c.args.wanted (pairs_of fs)) (sym c.deref.ensures.value) ∙ sym c.if-is_enough.ensures in
    first_enough c.args.wanted _ _ c.args.values.now c.index-values-0.result _ _ c.if-values-ne2.false c.index-values-0.is c.in_ok-x.ensures put full

pub returns : goal.returns
returns g c =
    let put = c.in_ok-put_under_index.ensures ∙ ap (λ fs. pairs_of fs ++ under (index 0) (pairs_of c.in_ok-x.x.items)) c.new-found.ensures.items in
    let more = ap (λ fs. is_full c.args.wanted (pairs_of fs)) (sym c.deref.ensures.value) ∙ sym c.if-is_enough.ensures in
    both_found c.args.wanted _ _ c.args.values.now c.index-values-0.result c.index-values-1.result _ _ _ _
    c.if-values-ne2.false c.index-values-0.is c.index-values-1.is c.in_ok-x.ensures put more c.in_ok-y.ensures c.in_ok-put_under_index-2.ensures
