use Rattle.std.proofs.Common.{◌∙◌, subst, sym}
use Rattle.topo.specs.Features.{HasFeature, IsFeatureOf}
use Rattle.topo.proofs.LayerLawsLemmas.Passing.{info_tells, info_means, order_means}
use Rattle.refine.proofs.remove.order_of.Goals as goal

pub returns-then-is_ne-clause-order : goal.returns-then-is_ne-clause-order
returns-then-is_ne-clause-order c =
    info_tells c.args.topology.now.arcs.arcs c.args.geometry.now c.args.other.now c.then-order.result
    (info_means c.args.geometry.now c.args.other.now c.then-order.result c.cmp.result c.cmp-2.result c.then-order.ensures c.cmp.ensures c.cmp-2.ensures)
    (sym c.is_ne.ensures ∙ c.if-is_ne.true)

pub known_feature-requires-clause-there : goal.known_feature-requires-clause-there
known_feature-requires-clause-there c = subst (λ a. HasFeature a.arcs c.args.geometry.now) (sym c.arcs.ensures.arcs) c.requires.there

pub returns-clause-order : goal.returns-clause-order
returns-clause-order c =
    c.cmp-stitched.ensures
    ∙ order_means c.args.topology.now.arcs.arcs c.in_ok-feature.feature c.args.other.now c.args.geometry.now
    (subst (λ a. IsFeatureOf a.arcs c.in_ok-feature.feature c.args.geometry.now) c.arcs.ensures.arcs c.in_ok-feature.ensures)
