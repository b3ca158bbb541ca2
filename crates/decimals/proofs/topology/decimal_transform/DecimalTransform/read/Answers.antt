use Rattle.std.proofs.Common.{◌≢◌, Err, IfErr, IfOk, inl, sym, ap, subst}
use Rattle.json.specs.Value.{value_view}
use Rattle.decimals.specs.Topology.TransformFaults.{IsTransformFault, IsTransformOf}
use Rattle.decimals.specs.declared.topology.transform_fault.TransformFault.TheVariants.{OutOfMemory}
use Rattle.decimals.proofs.TopologyLemmas.Transforms.{no_text, text_is}
use Rattle.decimals.proofs.topology.decimal_transform.DecimalTransform.read.Goals as goal

pub returns-in-Ok-clause-made : goal.returns-in-Ok-clause-made
returns-in-Ok-clause-made c =
    let ok = c.in-Ok.ensures.ok in
    subst (λ r. IfOk c.of_value.result (IsTransformOf c.args.unit.now r)) (sym (text_is c.args.text.now (value_view c.in-Ok.value) ok.0 ok.1)) c.of_value.ensures.made

pub returns-in-Ok-clause-refused : goal.returns-in-Ok-clause-refused
returns-in-Ok-clause-refused c =
    let ok = c.in-Ok.ensures.ok in
    subst (λ r. IfErr c.of_value.result (λ f. f ≢ OutOfMemory → IsTransformFault c.args.unit.now r f))
    (sym (text_is c.args.text.now (value_view c.in-Ok.value) ok.0 ok.1)) c.of_value.ensures.refused

pub returns-in-Err-Invalid-clause-refused : goal.returns-in-Err-Invalid-clause-refused
returns-in-Err-Invalid-clause-refused c = λ _. inl (no_text c.args.text.now (c.in-Err-Invalid.ensures.invalid (ap Err c.in-Err-Invalid.field-0-is)))
