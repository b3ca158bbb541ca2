-- The text of a layer of a map, a feature a line.
use Rattle.std.specs.FinMap as map
use Rattle.std.specs.Prelude.{ℕ, List, [], ◌∷◌, ◌++◌}
use Rattle.grid.specs.Place.{Transform}
use Rattle.shapes.specs.Maps.{Features, Layers, features_at}
use Rattle.shapes.specs.Sets as set
use Rattle.geojson_io.specs.CollectionText.{feature_text}
use Rattle.query.specs.ByArcs.{geom_text}
use Rattle.topo.specs.Parts.{LayerParts, TopologyParts}

-- the texts in order, each with a line feed behind it
abbrev pub lines : {T : Type 0} → (T → List ℕ) → List T → List ℕ
lines f [] = []
lines f (x ∷ xs) = (f x ++ (10 ∷ [])) ++ lines f xs

-- the features under a name, a line each
abbrev pub layer_lines : Transform → Layers → List ℕ → List ℕ
layer_lines g m name = lines (feature_text g) (set.items (features_at m name))

-- the features of all names, by their names, a line each
abbrev pub entries_lines : Transform → List (List ℕ × Features) → List ℕ
entries_lines g [] = []
entries_lines g (e ∷ es) = lines (feature_text g) (set.items e.1) ++ entries_lines g es

-- the features of all layers of a map, by the names of these, a line each
abbrev pub map_lines : Transform → Layers → List ℕ
map_lines g m = entries_lines g (map.entries m)

-- the same of the layers of a topology, read off its arcs
abbrev pub lines_by_arcs : TopologyParts → List LayerParts → List ℕ
lines_by_arcs t [] = []
lines_by_arcs t (l ∷ ls) = lines (geom_text t) l.geometries ++ lines_by_arcs t ls
