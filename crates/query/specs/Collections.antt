-- The text of a layer of a map.
use Rattle.std.specs.Prelude.{ℕ, List}
use Rattle.grid.specs.Place.{Transform}
use Rattle.shapes.specs.Maps.{Layers, features_at}
use Rattle.shapes.specs.Sets as set
use Rattle.geojson_io.specs.CollectionText.{collection_text}

-- the FeatureCollection of the features under a name
abbrev pub layer_collection : Transform → Layers → List ℕ → List ℕ
layer_collection g m name = collection_text g (set.items (features_at m name))
