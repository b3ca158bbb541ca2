use Rattle.std.proofs.Common.{◌∙◌, ap}
use Rattle.std.specs.FinMap as map
use Rattle.std.specs.Map.{values_of}
use Rattle.std.specs.Prelude.{map as map_list}
use Rattle.shapes.specs.Maps.{layer_entry}
use Rattle.shapes.proofs.MapLemmas.{layers_are_entries}
use Rattle.shapes.proofs.feature_map.FeatureMap.into_layers.Goals as goal

pub returns : goal.returns
returns c =
    let gives = c.into_iter.ensures.into_iter_gives in
    ap (λ es. map_list layer_entry (values_of es)) gives.0
    ∙ layers_are_entries c.self.inside.layers.entries c.self.invariant gives.5 ∙ ap map.entries c.self.view_is
