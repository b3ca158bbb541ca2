-- The laws of maps and their faults.
use Rattle.std.specs.Prelude.{◌≡◌, List, [], IsSome}
use Rattle.std.specs.List.{AllByRecursion}
use Rattle.json.specs.Json.{Json}
use Rattle.fixing.specs.Forms.{seen_geometry}
use Rattle.fixing.specs.Geometries.{geometry_left}
use Rattle.fixing.specs.declared.rules.FixingRules.{FixingRules}
use Rattle.numerals.specs.Numeral.{IsMeasure}
use Rattle.decimal_faults.specs.Maps.{map_faults}
use Rattle.decimal_maps.specs.Roots.{IsMap}
use Rattle.decimal_maps.specs.declared.feature.RawFeature.{RawFeature}
use Rattle.decimal_maps.specs.declared.rules.MapRules.{MapRules}

-- the rules leave something of a feature's geometry
abbrev pub IsLeft : FixingRules → RawFeature → Type 0
IsLeft fixing f = IsSome (geometry_left fixing (seen_geometry f.geometry))

-- and of that of each feature
abbrev pub AreLeft : FixingRules → List RawFeature → Type 0
AreLeft fixing fs = AllByRecursion (IsLeft fixing) fs

-- a map of which the rules refuse no feature has no faults
abbrev pub MapsAreSound : Type 0
MapsAreSound = (rules : MapRules) (fixing : FixingRules) (j : Json) (fs : List RawFeature) → IsMeasure rules.grid.step → IsMap rules j fs → AreLeft fixing fs → map_faults rules fixing j ≡ []

-- they refuse no feature of a map that has no faults
abbrev pub MapsAreFixable : Type 0
MapsAreFixable = (rules : MapRules) (fixing : FixingRules) (j : Json) (fs : List RawFeature) → IsMeasure rules.grid.step → IsMap rules j fs → map_faults rules fixing j ≡ [] → AreLeft fixing fs
