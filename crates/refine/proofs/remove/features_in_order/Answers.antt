use Rattle.std.proofs.Common.{◌≡◌, ◌++◌, ◌∙◌, ap, append-nil, map, sym}
use Rattle.shapes.specs.Maps.{set_of}
use Rattle.shapes.specs.OrderLaws.{feature_cmp_total}
use Rattle.shapes.specs.SetLaws.{items-from_list}
use Rattle.shapes.specs.Sets as set
use Rattle.refine.proofs.remove.features_in_order.Goals as goal

pub returns : goal.returns
returns c =
    let k : set.items (set_of c.args.features.now) ≡ c.args.features.now.keys = items-from_list feature_cmp_total c.args.features.now.keys c.iter-feature-items.ensures.ordered in
    sym (append-nil _) ∙ ap (λ es. map (λ f. f.now) c.loop-feature.list.items ++ es) (sym c.in-None.ensures.steps.0) ∙ c.loop-feature.invariant ∙ sym k
