use Rattle.std.proofs.Common.{◌∙◌}
use Rattle.shapes.specs.Maps.{set_of, with_features}
use Rattle.shapes.proofs.feature_map.FeatureMap.with_features.Goals as goal

pub returns : goal.returns
returns c =
    c.in_ok-move_layer.ensures.features
    ∙ (λ i. with_features (c.self.view_is i) (c.in_ok-key.ensures.ok i) (set_of c.args.features))
