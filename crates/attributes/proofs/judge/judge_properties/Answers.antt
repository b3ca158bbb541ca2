use Rattle.std.proofs.Common.{◌∙◌, [], ap}
use Rattle.std.proofs.lemmas.Result.{IfOk-weaker}
use Rattle.std.specs.Prelude.{if◌then◌else◌}
use Rattle.serde_json.specs.View.{members_view}
use Rattle.faults.specs.declared.fault.FaultKind.TheVariants.{PropertyDepth, PropertyNumber}
use Rattle.reading.specs.Fault.{here}
use Rattle.attributes.specs.Attributes.{properties_members, seen_member}
use Rattle.attributes.proofs.Judging.{judged}
use Rattle.attributes.proofs.judge.judge_properties.Goals as goal

pub returns : goal.returns
returns c =
    let p = seen_member c.args.properties in
    let is = rw c.in-Some.is at c.in_ok-made.ensures.made in
    let numbers = c.in_ok-number.ensures ∙ ap (λ b. if b then here PropertyNumber else []) c.has_wrong_number.ensures in
    let depths = c.in_ok-depth.ensures ∙ ap (λ b. if b then here PropertyDepth else []) c.nests_too_deep.ensures in
    IfOk-weaker c.join-2.result _ _
    (λ fs e. judged c.args.rules.now p (properties_members p) (members_view c.in-Some.members.entries) c.convert_properties.new.reals c.in_ok-number.number.items c.in_ok-depth.depth.items c.args.named.items c.in_ok-behind.behind.items fs.items
    is c.in_ok-made.ensures.reals numbers depths c.in_ok-behind.ensures e)
    c.join-2.ensures
