use Rattle.std.proofs.Common.{◌≡◌, ◌∙◌, Err, ap, false, subst, sym, true}
use Rattle.json.specs.Value.{value_view}
use Rattle.reading.specs.Fault.{LeastOrWant}
use Rattle.decimal_topologies.specs.Roots.{is_topology}
use Rattle.rounded_maps.proofs.Either.{of_geojson, of_no_tree, of_topology}
use Rattle.rounded_maps.proofs.content.refuse_either.Goals as goal

pub returns-then-is_topology : goal.returns-then-is_topology
returns-then-is_topology c =
    let j = value_view c.in-Ok.value in
    let ok = c.in-Ok.ensures.ok in
    let kind : is_topology j ≡ true = sym c.is_topology.ensures ∙ c.if-is_topology.true in
    subst (λ ps. LeastOrWant ps c.refuse_topology.result) (sym (of_topology c.args.rules.now c.args.text.now j ok.0 ok.1 kind)) c.refuse_topology.ensures

pub returns-in-Ok : goal.returns-in-Ok
returns-in-Ok c =
    let j = value_view c.in-Ok.value in
    let ok = c.in-Ok.ensures.ok in
    let kind : is_topology j ≡ false = sym c.is_topology.ensures ∙ c.if-is_topology.false in
    subst (λ ps. LeastOrWant ps c.refuse.result) (sym (of_geojson c.args.rules.now c.args.text.now j ok.0 ok.1 kind)) c.refuse.ensures

pub returns-in-Err-Invalid : goal.returns-in-Err-Invalid
returns-in-Err-Invalid c =
    subst (λ ps. LeastOrWant ps c.refuse-in-Err-Invalid.result) (sym (of_no_tree c.args.rules.now c.args.text.now (c.in-Err-Invalid.ensures.invalid (ap Err c.in-Err-Invalid.field-0-is)))) c.refuse-in-Err-Invalid.ensures
