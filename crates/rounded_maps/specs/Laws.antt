-- The laws of accepted files.
use Rattle.std.specs.Prelude.{◌≡◌, ℕ, List, [], Bool}
use Rattle.std.specs.List.{AllByRecursion}
use Rattle.numerals.specs.Numeral.{IsMeasure}
use Rattle.rounded_maps.specs.Files.{AreOfFile, File}
use Rattle.rounded_maps.specs.Rounded.{IsRounded, faults_under}
use Rattle.rounded_maps.specs.Topologies.{file_faults}
use Rattle.rounded_maps.specs.declared.files.Origin.{Origin}
use Rattle.rounded_maps.specs.declared.map.RoundedMap.{RoundedMap}
use Rattle.rounded_maps.specs.declared.rounding.RoundingRules.{RoundingRules}

-- a file that is a map has no faults
abbrev pub RoundedMapsAreFaultless : Type 0
RoundedMapsAreFaultless =
    (rules : RoundingRules) (is_sequence : Bool) (bytes : List ℕ) (m : RoundedMap) → IsMeasure rules.map.grid.step → IsRounded rules is_sequence bytes m → faults_under rules is_sequence bytes ≡ []

-- a file that has maps has no faults, be it GeoJSON or a topology
abbrev pub FilesAreFaultless : Type 0
FilesAreFaultless =
    (rules : RoundingRules) (place : ℕ) (file : File) (maps : List RoundedMap) (origins : List Origin) → IsMeasure rules.map.grid.step → AreOfFile rules place file maps origins → file_faults rules file.is_sequence file.bytes ≡ []

-- no file has a fault
abbrev pub AreFaultless : RoundingRules → List File → Type 0
AreFaultless rules files = AllByRecursion (λ f. file_faults rules f.is_sequence f.bytes ≡ []) files
