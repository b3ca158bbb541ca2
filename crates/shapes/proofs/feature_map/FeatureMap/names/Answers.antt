use Rattle.std.proofs.Common.{◌++◌, ◌∙◌, ap, sym, append-nil}
use Rattle.std.specs.FinMap as map
use Rattle.std.specs.Prelude.{map as map_list}
use Rattle.shapes.specs.Parts.{spelled_text}
use Rattle.shapes.proofs.MapLemmas.{names_of, names_are_keys}
use Rattle.shapes.proofs.feature_map.FeatureMap.names.Goals as goal

pub returns : goal.returns
returns c =
    let i = c.iter-layer-items.ensures in
    sym (append-nil _) ∙ ap (λ es. map_list (λ s. spelled_text s.now) c.loop-layer.names.items ++ names_of es) (sym c.in-None.ensures.steps.0) ∙ c.loop-layer.invariant
    ∙ ap names_of (c.into_iter-layer-iterator.ensures.into_iter_gives ∙ i.rest)
    ∙ names_are_keys c.self.inside.layers.entries c.self.invariant i.found i.ordered ∙ ap map.keys c.self.view_is
