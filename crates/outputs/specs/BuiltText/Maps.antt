-- The map of GeoJSON texts, each after its layer's name, and the canonical text of that map.
use Rattle.std.specs.Prelude.{◌≡◌, ℕ, ◌<◌, ◌^◌, List, [], ◌∷◌, ◌++◌, length, map as map_list, String, Vec, string_bytes, if◌then◌else◌}
use Rattle.std.specs.Borrow.{Bor}
use Rattle.std.specs.Str.{bytes_eq}
use Rattle.std.specs.declared.alloc.Global.{Global}
use Rattle.grid.specs.Place.{Transform}
use Rattle.shapes.specs.Fitting.{MapFits}
use Rattle.shapes.specs.Maps.{Layers}
use Rattle.reading.specs.Meant.{AreLayers}
use Rattle.reading.specs.Plain.{Plain}
use Rattle.geojson_io.specs.Features.{features_of_text}
use Rattle.topo.specs.OfMap.{IsOf, IsTopology, seen_parts}
use Rattle.topo.specs.Parts.{TopologyParts}
use Rattle.topo_io.specs.Canon.{canon}
use Rattle.topo_io.specs.Means.{Means}

-- names and texts by their bytes
abbrev pub named_texts : List (String Global × Vec ℕ Global) → List (List ℕ × List ℕ)
named_texts texts = map_list (λ s. (string_bytes s.0, s.1.items)) texts

-- the same of borrowed names and texts
abbrev pub borrowed_texts : List (Bor (List ℕ) × Bor (List ℕ)) → List (List ℕ × List ℕ)
borrowed_texts texts = map_list (λ s. (s.0.now, s.1.now)) texts

-- the features of all texts of that name, as plain data
abbrev pub features_under : Transform → List ℕ → List (List ℕ × List ℕ) → List Plain
features_under t n [] = []
features_under t n (s ∷ texts) = (if bytes_eq n s.0 then features_of_text t s.1 else []) ++ features_under t n texts

-- the name of each text, with the features of all texts of that name
abbrev pub layers_of_texts : Transform → List (List ℕ × List ℕ) → List (List ℕ × List Plain)
layers_of_texts t texts = map_list (λ s. (s.0, features_under t s.0 texts)) texts

-- the layers of the map have the names of the texts, and each has the features of all texts of its name, and no others
pub record IsMapOfTexts (t : Transform) (texts : List (List ℕ × List ℕ)) (m : Layers) : Type 0 where
  pub layers : AreLayers m (layers_of_texts t texts)

-- the canonical text of the map of the texts
pub record IsTextOfTexts (t : Transform) (texts : List (List ℕ × List ℕ)) (text : List ℕ) : Type 0 where
  pub map : Layers
  pub of_texts : IsMapOfTexts t texts map
  pub is : text ≡ canon t map

-- the text is accepted as a topology's, and means the grid and the map of the texts
pub record MeansTexts (t : Transform) (texts : List (List ℕ × List ℕ)) (text : List ℕ) : Type 0 where
  pub map : Layers
  pub of_texts : IsMapOfTexts t texts map
  pub means : Means text t map

-- the topology in memory of the map of the texts, which fits the grid
pub record IsTopologyOfTexts (t : Transform) (texts : List (List ℕ × List ℕ)) (parts : TopologyParts) : Type 0 where
  pub map : Layers
  pub of_texts : IsMapOfTexts t texts map
  pub fits : MapFits t map
  pub topology : IsTopology t map (seen_parts parts)
  pub of_map : IsOf map parts
  pub few : length parts.arcs.arcs < 2 ^ 63
