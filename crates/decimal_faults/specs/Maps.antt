-- Faults of features, of maps and of texts [RFC 7946, 3.2 and 3.3].
use Rattle.std.specs.Prelude.{ℕ, List, ◌++◌, Option, Some, None, Result, Ok, Err, codes, if◌then◌else◌}
use Rattle.std.specs.Str.{bytes_eq, is_utf8}
use Rattle.json.specs.Json.{Json, document}
use Rattle.json.specs.Find.{get, as_object}
use Rattle.faults.specs.Fault.{Pair}
use Rattle.faults.specs.declared.fault.FaultKind.{FaultKind}
use Rattle.faults.specs.declared.fault.FaultKind.TheVariants.{NotJson}
use Rattle.fixing.specs.declared.rules.FixingRules.{FixingRules}
use Rattle.attributes.specs.Refusals.{attributes_faults}
use Rattle.reading.specs.Fault.{here}
use Rattle.reading.specs.Parts.{named, of_type, typed_faults}
use Rattle.decimal_faults.specs.Geometries.{geometry_faults}
use Rattle.decimal_faults.specs.Parts.{list_faults, member_faults, option_faults, object_faults, unless_null, type_text}
use Rattle.decimal_maps.specs.declared.rules.MapRules.{MapRules}

-- the members of a feature; a missing geometry is null [RFC 7946, 3.2]
abbrev pub feature_members_faults : MapRules → FixingRules → Json → List Pair
feature_members_faults rules fixing j =
    option_faults (codes "geometry") (unless_null (geometry_faults rules.grid fixing)) j ++ attributes_faults rules.attributes (get (codes "id") j) (get (codes "properties") j)

-- an element of `features` [RFC 7946, 3.3]
abbrev pub feature_faults : MapRules → FixingRules → Json → List Pair
feature_faults rules fixing j = object_faults (typed_faults (λ t. feature_members_faults rules fixing j) (named (of_type (codes "Feature")) (type_text j))) (as_object j)

-- by the text of `type`: a collection of features, a feature, or else a geometry
abbrev pub root_faults : MapRules → FixingRules → Json → Result (List ℕ) FaultKind → List Pair
root_faults rules fixing j (Err k) = geometry_faults rules.grid fixing j
root_faults rules fixing j (Ok s) =
    if bytes_eq s (codes "FeatureCollection") then member_faults (codes "features") (list_faults (feature_faults rules fixing)) j
    else (if bytes_eq s (codes "Feature") then feature_members_faults rules fixing j else geometry_faults rules.grid fixing j)

-- the faults of a map that the fixing rules leave [RFC 7946, 3; limits own]
abbrev pub map_faults : MapRules → FixingRules → Json → List Pair
map_faults rules fixing j = root_faults rules fixing j (type_text j)

abbrev pub document_faults : MapRules → FixingRules → Option Json → List Pair
document_faults rules fixing None = here NotJson
document_faults rules fixing (Some j) = map_faults rules fixing j

-- the faults of bytes, which are to be UTF-8 and the text of a map [RFC 7946, 3; RFC 8259]
abbrev pub faults_of_text : MapRules → FixingRules → List ℕ → List Pair
faults_of_text rules fixing bytes = document_faults rules fixing (if is_utf8 bytes then document bytes else None)
