use Rattle.std.proofs.Common.{◌∙◌, ap}
use Rattle.std.specs.FinMap as map
use Rattle.std.specs.Prelude.{map as map_list}
use Rattle.shapes.specs.Maps.{layer_entry}
use Rattle.shapes.proofs.MapLemmas.{layers_are_entries}
use Rattle.shapes.proofs.feature_map.FeatureMap.layers.Goals as goal

pub returns : goal.returns
returns c =
    ap (map_list layer_entry) c.values.ensures.rest
    ∙ layers_are_entries c.self.inside.layers.entries c.self.invariant c.values.ensures.ordered ∙ ap map.entries c.self.view_is
