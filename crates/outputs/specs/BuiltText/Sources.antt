-- Lists of GeoJSON texts: when all are accepted, and how one is refused.
use Rattle.std.specs.Prelude.{◌≡◌, ℕ, List, [], All}
use Rattle.faults.specs.Fault.{IsWant}
use Rattle.faults.specs.declared.fault.Fault.{Fault}
use Rattle.grid.specs.Place.{Transform}
use Rattle.reading.specs.FirstRefused.{IsFirstRefused}
use Rattle.geojson_io.specs.Features.{faults_of_text}
use Rattle.outputs.specs.declared.built_text.building.BuildFault.{BuildFault}
use Rattle.outputs.specs.declared.built_text.building.BuildFault.TheVariants.{Text, OutOfMemory}

-- none of the texts has a fault on the grid
abbrev pub AreAccepted : Transform → List (List ℕ) → Type 0
AreAccepted t texts = All (λ bytes. faults_of_text t bytes ≡ []) texts

-- the first refused text, or memory was refused
abbrev pub IsRefusal : Transform → List (List ℕ) → BuildFault → Type 0
IsRefusal t texts (Text place f) = IsFirstRefused (faults_of_text t) texts place f
IsRefusal t texts OutOfMemory = Unit {0}

-- the fault of the text at the place, or memory was refused
abbrev pub IsFaultAt : ℕ → Fault → BuildFault → Type 0
IsFaultAt place fault (Text i f) = (i ≡ place) × (f ≡ fault) × (IsWant fault → ⊥)
IsFaultAt place fault OutOfMemory = Unit {0}
