use Rattle.std.proofs.Common.{◌≡◌, ◌++◌, ◌∙◌, ap, sym, append-nil}
use Rattle.shapes.specs.Maps.{set_of}
use Rattle.shapes.specs.Sets as set
use Rattle.shapes.specs.OrderLaws.{feature_cmp_total}
use Rattle.shapes.specs.SetLaws.{items-from_list}
use Rattle.topo.specs.Taken.{features_left, geometries_taken}
use Rattle.topo.proofs.building.UsedLists.geometries.Goals as goal

pub returns-clause-geometries : goal.returns-clause-geometries
returns-clause-geometries c =
    let gives = c.into_iter-feature-iterator.ensures.into_iter_gives in
    let k : set.items (set_of c.args.features) ≡ c.args.features.keys = items-from_list feature_cmp_total c.args.features.keys gives.4 in
    sym (append-nil _) ∙ ap (λ fs. c.loop-feature.geometries.items ++ geometries_taken fs c.loop-feature.self) (sym c.in-None.ensures.steps.0)
    ∙ c.loop-feature.invariant.geometries ∙ ap (λ fs. geometries_taken fs c.args.self.now) (gives.0 ∙ sym k)

pub returns-clause-left : goal.returns-clause-left
returns-clause-left c =
    let gives = c.into_iter-feature-iterator.ensures.into_iter_gives in
    let k : set.items (set_of c.args.features) ≡ c.args.features.keys = items-from_list feature_cmp_total c.args.features.keys gives.4 in
    ap (λ fs. features_left fs c.loop-feature.self) (sym c.in-None.ensures.steps.0) ∙ c.loop-feature.invariant.left
    ∙ ap (λ fs. features_left fs c.args.self.now) (gives.0 ∙ sym k)
