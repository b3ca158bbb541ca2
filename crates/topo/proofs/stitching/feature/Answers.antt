use Rattle.std.proofs.Common.{◌∙◌, ap, sym, subst}
use Rattle.shapes.specs.Ids.{HasI64}
use Rattle.shapes.specs.OrderLaws.{feature_alike}
use Rattle.topo.proofs.stitching.feature.Goals as goal

pub invariant_of-result : goal.invariant_of-result
invariant_of-result c = record { bits = subst HasI64 (c.requires.1.id ∙ sym c.in_ok-id.ensures) c.requires.0.bits }

pub returns : goal.returns
returns c = λ f h.
    (feature_alike _ f).1 (c.in_ok-id.ensures ∙ sym h.id, ap (λ p. p.text) (c.in_ok-props.ensures ∙ sym h.props), c.in_ok-shape.ensures f.shape h.shape)
