-- Sets of features and maps by what they hold as plain data.
use Rattle.std.specs.Prelude.{◌≡◌, ◌↔◌, ℕ, List, map as map_list, IsTrue}
use Rattle.std.specs.FinMap as map
use Rattle.shapes.specs.Sets as set
use Rattle.shapes.specs.Maps.{Features, Layers, features_at}
use Rattle.shapes.specs.declared.feature.Feature.{Feature}
use Rattle.theory.specs.Lists.{Has}
use Rattle.reading.specs.Plain.{Plain, plain}

-- the set holds the features that are these as plain data, and nothing else
pub record AreFeatures (made : Features) (meant : List Plain) : Type 0 where
  pub only : (f : Feature) → IsTrue (set.contains made f) → Has (plain f) meant
  pub all : (p : Plain) → Has p meant → (f : Feature) × IsTrue (set.contains made f) × (plain f ≡ p)

-- the map has the layers of these names, and under each the features that are these as plain data
pub record AreLayers (made : Layers) (meant : List (List ℕ × List Plain)) : Type 0 where
  pub names : (n : List ℕ) → IsTrue (map.contains_key made n) ↔ Has n (map_list (λ l. l.0) meant)
  pub features : (n : List ℕ) (ps : List Plain) → Has (n, ps) meant → AreFeatures (features_at made n) ps
