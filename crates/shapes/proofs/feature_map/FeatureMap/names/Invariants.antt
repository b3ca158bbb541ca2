use Rattle.std.proofs.Common.{◌≡◌, ◌++◌}
use Rattle.std.specs.Prelude.{map as map_list}
use Rattle.shapes.specs.Parts.{spelled_text}
use Rattle.shapes.proofs.MapLemmas.{names_of}
use Rattle.shapes.proofs.feature_map.FeatureMap.names.Given as goal

abbrev pub invariant-loop-layer : goal.invariant-loop-layer
invariant-loop-layer l = (map_list (λ s. spelled_text s.now) l.names.items ++ names_of l.layer-iterator) ≡ names_of l.initial.layer-iterator
