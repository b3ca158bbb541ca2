-- Why maps are refused.
use Rattle.std.specs.Prelude.{◌≡◌, ◌⊎◌, ◌+◌, ℕ, List, [], ◌∷◌}
use Rattle.faults.specs.Fault.{IsWant, Pair, pair_of}
use Rattle.faults.specs.declared.fault.Fault.{Fault}
use Rattle.reading.specs.Fault.{IsLeast}
use Rattle.rounded_maps.specs.Files.{AreOfFile, File}
use Rattle.rounded_maps.specs.Topologies.{file_faults}
use Rattle.rounded_maps.specs.declared.files.Origin.{Origin}
use Rattle.rounded_maps.specs.declared.building.MapsFault.{MapsFault}
use Rattle.rounded_maps.specs.declared.building.MapsFault.TheVariants.{Text, OutOfMemory}
use Rattle.rounded_maps.specs.declared.map.RoundedMap.{RoundedMap}
use Rattle.rounded_maps.specs.declared.rounding.RoundingRules.{RoundingRules}

-- the fault of the text at the place, or memory was refused
abbrev pub IsTextFault : ℕ → Fault → MapsFault → Type 0
IsTextFault place fault (Text i f) = (i ≡ place) × (f ≡ fault) × (IsWant fault → ⊥)
IsTextFault place fault OutOfMemory = Unit {0}

-- a file with faults is refused with its first one
pub record IsRefusedText (faults : List Pair) (fault : Fault) : Type 0 where
  pub least : IsLeast faults (pair_of fault)
  pub no_want : IsWant fault → ⊥

-- the file of that place is refused with the first of these faults, or memory was refused
abbrev pub IsRefusal : ℕ → List Pair → MapsFault → Type 0
IsRefusal place faults (Text i f) = (i ≡ place) × IsRefusedText faults f
IsRefusal place faults OutOfMemory = Unit {0}

-- the file at the place has maps, of which each feature is fixed
pub record IsTaken (rules : RoundingRules) (place : ℕ) (file : File) : Type 0 where
  pub maps : List RoundedMap
  pub origins : List Origin
  pub are : AreOfFile rules place file maps origins

-- of the files, numbered from n, those before the place are taken, and that at the place is refused with its first fault
abbrev pub IsFirstFrom : RoundingRules → ℕ → List File → ℕ → Fault → Type 0
IsFirstFrom rules n [] place fault = ⊥
IsFirstFrom rules n (file ∷ files) place fault =
    ((place ≡ n) × IsRefusedText (file_faults rules file.is_sequence file.bytes) fault) ⊎ (IsTaken rules n file × IsFirstFrom rules (n + 1) files place fault)

-- the first file that is refused, or memory was
abbrev pub IsMapsRefusal : RoundingRules → ℕ → List File → MapsFault → Type 0
IsMapsRefusal rules n files (Text place f) = IsFirstFrom rules n files place f
IsMapsRefusal rules n files OutOfMemory = Unit {0}
