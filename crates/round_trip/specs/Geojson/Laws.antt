-- What is written of features is read back as those features.
use Rattle.std.specs.Prelude.{◌≡◌, ℕ, List, [], map}
use Rattle.std.specs.List.{AllByRecursion}
use Rattle.grid.specs.Place.{Transform, IsTransform}
use Rattle.shapes.specs.Fitting.{ShapeFits, MapFits}
use Rattle.shapes.specs.Maps.{Layers, features_at}
use Rattle.shapes.specs.Sets as set
use Rattle.shapes.specs.declared.feature.Feature.{Feature}
use Rattle.reading.specs.Plain.{plain}
use Rattle.geojson_io.specs.CollectionText.{collection_text}
use Rattle.geojson_io.specs.Features.{faults_of_text, features_of_text}

-- the positions of the feature fit the grid
abbrev pub FeatureFits : Transform → Feature → Type 0
FeatureFits t f = ShapeFits t f.shape

-- the text of these features is accepted on the grid, and means them, in their order
pub record ReadsBack (t : Transform) (fs : List Feature) : Type 0 where
  pub accepted : faults_of_text t (collection_text t fs) ≡ []
  pub means : features_of_text t (collection_text t fs) ≡ map plain fs

-- on a grid within its limits each list of features that fit reads back
abbrev pub WrittenCollectionsAreRead : Type 0
WrittenCollectionsAreRead = (t : Transform) (fs : List Feature) → IsTransform t → AllByRecursion (FeatureFits t) fs → ReadsBack t fs

-- and so does each layer of a map that fits
abbrev pub WrittenLayersAreRead : Type 0
WrittenLayersAreRead = (t : Transform) (m : Layers) (name : List ℕ) → IsTransform t → MapFits t m → ReadsBack t (set.items (features_at m name))
