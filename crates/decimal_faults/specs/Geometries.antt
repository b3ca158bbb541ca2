-- Faults of geometries, and of collections of them, which may nest [RFC 7946, 3.1].
use Rattle.std.specs.Prelude.{ℕ, ◌+◌, Bool, true, false, List, [], ◌++◌, Option, Some, None, Result, Ok, Err, codes, if◌then◌else◌}
use Rattle.std.specs.Str.{bytes_eq}
use Rattle.json.specs.Json.{Json, null, boolean, number, string, array, object, Items, no_items, item, Members, no_members, member}
use Rattle.json.specs.Find.{as_array}
use Rattle.faults.specs.Path.{name, index}
use Rattle.faults.specs.Fault.{Pair}
use Rattle.faults.specs.declared.fault.FaultKind.{FaultKind}
use Rattle.faults.specs.declared.fault.FaultKind.TheVariants.{Missing, WrongKind, UnknownType}
use Rattle.fixing.specs.declared.rules.FixingRules.{FixingRules}
use Rattle.reading.specs.Fault.{here, under}
use Rattle.reading.specs.Parts.{named, typed_faults}
use Rattle.reading.specs.Types.{geometry_named}
use Rattle.reading.specs.declared.geometry.GeometryType.{GeometryType}
use Rattle.reading.specs.declared.geometry.GeometryType.TheVariants.{Point, MultiPoint, LineString, MultiLineString, Polygon, MultiPolygon}
use Rattle.decimal_faults.specs.Outlines.{outline_at_faults}
use Rattle.decimal_faults.specs.Parts.{list_faults, member_faults, type_text}
use Rattle.decimal_faults.specs.Positions.{position_faults}
use Rattle.decimal_faults.specs.declared.geometry.GeometryForm.{GeometryForm}
use Rattle.decimal_faults.specs.declared.geometry.GeometryForm.TheVariants.{Simple, Collection}
use Rattle.decimal_faults.specs.declared.outline.Outline.TheVariants.{Line, Ring}
use Rattle.decimal_maps.specs.declared.rules.DecimalGrid.{DecimalGrid}

-- ---- coordinates

-- an array of nothing
abbrev pub is_nothing : Option Items → Bool
is_nothing None = false
is_nothing (Some no_items) = true
is_nothing (Some (item j js)) = false

-- a position, or none at all
abbrev pub point_faults : DecimalGrid → Json → List Pair
point_faults grid j = if is_nothing (as_array j) then [] else position_faults grid j

-- the faults of `coordinates`, by the geometry's type [RFC 7946, 3.1.2 to 3.1.7]
abbrev pub coordinates_faults : DecimalGrid → FixingRules → GeometryType → Json → List Pair
coordinates_faults grid fixing Point = point_faults grid
coordinates_faults grid fixing MultiPoint = list_faults (position_faults grid)
coordinates_faults grid fixing LineString = outline_at_faults grid fixing Line
coordinates_faults grid fixing MultiLineString = list_faults (outline_at_faults grid fixing Line)
coordinates_faults grid fixing Polygon = list_faults (outline_at_faults grid fixing Ring)
coordinates_faults grid fixing MultiPolygon = list_faults (list_faults (outline_at_faults grid fixing Ring))

-- ---- types

-- the geometry of one shape of that type
abbrev pub simple : Result GeometryType FaultKind → Result GeometryForm FaultKind
simple (Err k) = Err k
simple (Ok k) = Ok (Simple k)

-- the geometry that a name says [RFC 7946, 1.4]
abbrev pub form_named : List ℕ → Result GeometryForm FaultKind
form_named s = if bytes_eq s (codes "GeometryCollection") then Ok Collection else simple (geometry_named s)

-- the geometry that an object's member `type` names
abbrev pub form_of : Json → Result GeometryForm FaultKind
form_of j = named form_named (type_text j)

-- the faults of a geometry by its type: those of its coordinates, or of its geometries where collections are split
abbrev pub form_faults : DecimalGrid → FixingRules → Json → List Pair → GeometryForm → List Pair
form_faults grid fixing j within (Simple k) = member_faults (codes "coordinates") (coordinates_faults grid fixing k) j
form_faults grid fixing j within Collection = if fixing.splits_collections then under (name (codes "geometries")) within else under (name (codes "type")) (here UnknownType)

-- ---- geometries

-- the later of two, if it is there
abbrev pub later : Option (List Pair) → Option (List Pair) → Option (List Pair)
later None earlier = earlier
later (Some ps) earlier = Some ps

abbrev pub or_missing : Option (List Pair) → List Pair
or_missing None = here Missing
or_missing (Some ps) = ps

unfoldable mutual
  -- an object with a type, and coordinates or geometries [RFC 7946, 3.1]
  pub geometry_faults : DecimalGrid → FixingRules → Json → List Pair
  geometry_faults grid fixing null = here WrongKind
  geometry_faults grid fixing (boolean b) = here WrongKind
  geometry_faults grid fixing (number s) = here WrongKind
  geometry_faults grid fixing (string s) = here WrongKind
  geometry_faults grid fixing (array js) = here WrongKind
  geometry_faults grid fixing (object ms) = typed_faults (form_faults grid fixing (object ms) (or_missing (geometries_in grid fixing ms))) (form_of (object ms))

  -- a list of geometries [RFC 7946, 3.1.8]
  pub geometries_faults : DecimalGrid → FixingRules → Json → List Pair
  geometries_faults grid fixing null = here WrongKind
  geometries_faults grid fixing (boolean b) = here WrongKind
  geometries_faults grid fixing (number s) = here WrongKind
  geometries_faults grid fixing (string s) = here WrongKind
  geometries_faults grid fixing (array js) = each_geometry_faults grid fixing 0 js
  geometries_faults grid fixing (object ms) = here WrongKind

  -- each geometry's faults, the first having that index
  pub each_geometry_faults : DecimalGrid → FixingRules → ℕ → Items → List Pair
  each_geometry_faults grid fixing i no_items = []
  each_geometry_faults grid fixing i (item j js) = under (index i) (geometry_faults grid fixing j) ++ each_geometry_faults grid fixing (i + 1) js

  -- the faults of the last member `geometries`, if there is one
  pub geometries_in : DecimalGrid → FixingRules → Members → Option (List Pair)
  geometries_in grid fixing no_members = None
  geometries_in grid fixing (member k j ms) = later (geometries_in grid fixing ms) (if bytes_eq k (codes "geometries") then Some (geometries_faults grid fixing j) else None)
