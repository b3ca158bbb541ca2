use Rattle.std.proofs.Common.{◌≡◌, Err, IfOk, sym, ap, ◌∙◌, subst}
use Rattle.std.proofs.lemmas.Result.{IfOk-weaker}
use Rattle.json.specs.Value.{value_view}
use Rattle.reading.specs.FaultLists.Found.{pairs_of}
use Rattle.decimal_faults.proofs.Order.{map_in_order, text_in_order}
use Rattle.decimal_faults.proofs.Texts.{no_text, text_is}
use Rattle.decimal_faults.proofs.root.faults.Goals as goal

pub returns-in-Ok-clause-all : goal.returns-in-Ok-clause-all
returns-in-Ok-clause-all c =
    let ok = c.in-Ok.ensures.ok in
    subst (λ ps. IfOk c.judge_map.result (λ fs. pairs_of fs.items ≡ ps)) (sym (text_is c.args.rules.now c.args.fixing.now c.args.bytes.now (value_view c.in-Ok.value) ok.0 ok.1)) c.judge_map.ensures

pub returns-in-Ok-clause-sorted : goal.returns-in-Ok-clause-sorted
returns-in-Ok-clause-sorted c =
    IfOk-weaker c.judge_map.result _ _ (λ fs is. map_in_order c.args.rules.now c.args.fixing.now (value_view c.in-Ok.value) (pairs_of fs.items) is) c.judge_map.ensures

pub returns-in-Err-Invalid-clause-all : goal.returns-in-Err-Invalid-clause-all
returns-in-Err-Invalid-clause-all c =
    c.in_ok-one-in-Err-Invalid.ensures.same ∙ sym (no_text c.args.rules.now c.args.fixing.now c.args.bytes.now (c.in-Err-Invalid.ensures.invalid (ap Err c.in-Err-Invalid.field-0-is)))

pub returns-in-Err-Invalid-clause-sorted : goal.returns-in-Err-Invalid-clause-sorted
returns-in-Err-Invalid-clause-sorted c =
    text_in_order c.args.rules.now c.args.fixing.now c.args.bytes.now (pairs_of c.in_ok-one-in-Err-Invalid.field-0.items)
    (c.in_ok-one-in-Err-Invalid.ensures.same ∙ sym (no_text c.args.rules.now c.args.fixing.now c.args.bytes.now (c.in-Err-Invalid.ensures.invalid (ap Err c.in-Err-Invalid.field-0-is))))
