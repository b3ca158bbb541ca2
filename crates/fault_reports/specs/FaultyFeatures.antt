-- The feature that an error of a text lies in, and the member of its properties.
use Rattle.std.specs.Prelude.{ℕ, Bool, false, List, [], ◌∷◌, Option, Some, None, codes, drop, if◌then◌else◌, is_some, option_and_then, take}
use Rattle.std.specs.Str.{bytes_eq}
use Rattle.faults.specs.Path.{Turn, name, index}
use Rattle.serde_json.specs.Data.{Data, null, boolean, number, string, array, object, Members, no_members, member}
use Rattle.serde_json.specs.Find.{as_i64, as_object, as_str, at, get}
use Rattle.serde_json.specs.Written.{has_float}
use Rattle.fault_reports.specs.declared.features.Format.{Format}
use Rattle.fault_reports.specs.declared.features.Format.TheVariants.{GeoJson, Topology}

-- the member or the element that a step leads to
abbrev pub value_at_step : Turn → Data → Option Data
value_at_step (name n) = get n
value_at_step (index i) = at i

-- the value that a path leads to
abbrev pub value_at : List Turn → Data → Option Data
value_at [] d = Some d
value_at (t ∷ ts) d = option_and_then (value_at ts) (value_at_step t d)

-- there is a text, and it is the wanted one
abbrev pub is_text : List ℕ → Option (List ℕ) → Bool
is_text wanted None = false
is_text wanted (Some text) = bytes_eq text wanted

-- the type of an object is the wanted one
abbrev pub has_type : List ℕ → Data → Bool
has_type wanted d = is_text wanted (option_and_then as_str (get (codes "type") d))

-- a path goes into the member of the name, and further
abbrev pub goes_into : List ℕ → List Turn → Bool
goes_into wanted [] = false
goes_into wanted (t ∷ []) = false
goes_into wanted (name n ∷ t ∷ ts) = bytes_eq n wanted
goes_into wanted (index i ∷ t ∷ ts) = false

-- how many steps lead to the feature of GeoJSON that an error lies in: two into an element of features, else none where the text is a Feature
unfoldable pub steps_in_geojson : Data → List Turn → Option ℕ
steps_in_geojson text path = if goes_into (codes "features") path then Some 2 else (if has_type (codes "Feature") text then Some 0 else None)

-- a layer of a topology, two steps into it, is one feature, unless it is a collection
abbrev pub steps_to_layer : Data → Option ℕ
steps_to_layer layer = if has_type (codes "GeometryCollection") layer then None else Some 2

-- the same in a topology: four into an element of a layer's geometries, else two into a layer that is no collection
unfoldable pub steps_in_topology : Data → List Turn → Option ℕ
steps_in_topology text path = if goes_into (codes "objects") path
    then (if goes_into (codes "geometries") (drop 2 path) then Some 4 else option_and_then steps_to_layer (value_at (take 2 path) text))
    else None

-- how many steps lead to the feature that an error lies in
abbrev pub steps_to_feature : Format → Data → List Turn → Option ℕ
steps_to_feature GeoJson = steps_in_geojson
steps_to_feature Topology = steps_in_topology

-- the feature that the error at a path lies in
abbrev pub faulty_feature : Format → Data → List Turn → Option Data
faulty_feature format text path = option_and_then (λ n. value_at (take n path) text) (steps_to_feature format text path)

-- an id: a string or an integer of 64 bits
abbrev pub as_id : Data → Option Data
as_id null = None
as_id (boolean b) = None
as_id (number n) = if is_some (as_i64 n) then Some (number n) else None
as_id (string s) = Some (string s)
as_id (array ds) = None
as_id (object ms) = None

-- the id of a feature
abbrev pub id_of : Data → Option Data
id_of feature = option_and_then as_id (get (codes "id") feature)

-- the id of the feature that the error at a path lies in
abbrev pub faulty_id : Format → Data → List Turn → Option Data
faulty_id format text path = option_and_then id_of (faulty_feature format text path)

-- the name of the first member in which a number is no integer of 64 bits
abbrev pub first_fraction : Members → Option (List ℕ)
first_fraction no_members = None
first_fraction (member n d ms) = if has_float d then Some n else first_fraction ms

-- the name of the first such member of the object at a path
abbrev pub faulty_member : Data → List Turn → Option (List ℕ)
faulty_member text path = option_and_then first_fraction (option_and_then as_object (value_at path text))
