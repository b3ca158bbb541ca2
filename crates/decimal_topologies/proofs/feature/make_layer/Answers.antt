use Rattle.std.proofs.Common.{◌≡◌, false, IfOk, sym, subst}
use Rattle.std.proofs.lemmas.Result.{IfOk-weaker}
use Rattle.json.specs.Value.{value_view}
use Rattle.decimal_topologies.specs.Features.{IsLayerBy, has_features}
use Rattle.decimal_topologies.specs.Geometries.{parts_of}
use Rattle.decimal_topologies.proofs.feature.make_layer.Goals as goal

pub returns-in-Ok-clause-made : goal.returns-in-Ok-clause-made
returns-in-Ok-clause-made c =
    let of = c.args.of.now in
    let j = value_view c.args.value.now in
    let single : has_features j ≡ false = cc in
    subst (λ b. IfOk c.only.result (λ fs. IsLayerBy (parts_of of.topology.now) of.rules.now j fs.items b)) (sym single)
    (IfOk-weaker c.only.result _ _ (λ fs is. record { feature = c.in-Ok.feature; only = is; is = c.in-Ok.ensures.made }) c.only.ensures.made)
