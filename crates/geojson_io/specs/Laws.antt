-- The laws of what texts have for faults.
use Rattle.std.specs.Prelude.{◌≡◌, ℕ, List, ◌∷◌}
use Rattle.faults.specs.Fault.{Pair, pair_of, IsWant}
use Rattle.faults.specs.declared.fault.Fault.{Fault}
use Rattle.grid.specs.Place.{Transform}
use Rattle.reading.specs.Fault.{LeastOrWant}
use Rattle.geojson_io.specs.Features.{faults_of_text}

-- the fault that `read` answers is the first of the text's faults
abbrev pub FirstIsRead : Type 0
FirstIsRead = (t : Transform) (bytes : List ℕ) (f : Fault) → LeastOrWant (faults_of_text t bytes) f → ¬ IsWant f → (ps : List Pair) × (faults_of_text t bytes ≡ pair_of f ∷ ps)
