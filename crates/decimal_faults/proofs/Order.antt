-- The faults of a map are listed in order.
use Rattle.std.proofs.Common.{◌≡◌, ℕ, ◌+◌, ◌<◌, Bool, true, false, List, [], ◌++◌, Option, Some, None, Result, Ok, Err, Less, codes, bytes_eq, if◌then◌else◌, refl, sym, subst, arith, append_assoc, ◌&&◌, nat_le, min, ◌^◌}
use Rattle.std.specs.Cmp.{nat_cmp_is}
use Rattle.std.specs.Str.{is_utf8}
use Rattle.json.specs.Json.{Json, null, boolean, number, string, array, object, Items, no_items, item, Members, no_members, member, document}
use Rattle.json.specs.Find.{get, is_null, as_array, as_number, as_object}
use Rattle.faults.specs.Path.{name, index}
use Rattle.faults.specs.Fault.{Pair}
use Rattle.faults.specs.declared.fault.FaultKind.{FaultKind}
use Rattle.faults.specs.declared.fault.FaultKind.TheVariants as kind
use Rattle.fixing.specs.declared.rules.FixingRules.{FixingRules}
use Rattle.numerals.specs.Numeral.{Measure}
use Rattle.attributes.specs.Refusals.{attributes_faults}
use Rattle.attributes.proofs.Order.{ascending_attributes, beyond_attributes}
use Rattle.reading.specs.Fault.{here, under}
use Rattle.reading.specs.FaultLists.Ascending.{IsAscending}
use Rattle.reading.specs.Outlines.{outline_faults}
use Rattle.reading.specs.Parts.{named, of_type}
use Rattle.reading.specs.declared.geometry.GeometryType.{GeometryType}
use Rattle.reading.specs.declared.geometry.GeometryType.TheVariants.{Point, MultiPoint, LineString, MultiLineString, Polygon, MultiPolygon}
use Rattle.reading.proofs.FaultListsLemmas.Ascending.{IsBeyond, ascending_here, ascending_more, ascending_none, ascending_outline, ascending_typed, ascending_under, ascending_unless, beyond_append, beyond_none, beyond_under}
use Rattle.decimal_maps.specs.declared.rules.DecimalGrid.{DecimalGrid}
use Rattle.decimal_maps.specs.declared.rules.MapRules.{MapRules}
use Rattle.decimal_faults.specs.Geometries.{is_nothing, coordinates_faults, form_of, form_faults, later, or_missing, geometry_faults, geometries_faults, each_geometry_faults, geometries_in}
use Rattle.decimal_faults.specs.Maps.{feature_members_faults, feature_faults, root_faults, map_faults, document_faults, faults_of_text}
use Rattle.decimal_faults.specs.Outlines.{outline_at_faults, unfixed_as}
use Rattle.decimal_faults.specs.Parts.{array_faults, each_faults, list_faults, there, member_faults, if_there, unless_null, object_faults, numeral_faults, type_text}
use Rattle.decimal_faults.specs.Positions.{is_numeral, steps_of, number_faults, coordinate_faults, height_faults, may_have, both_faults, numbers_faults, position_faults, positions_of}
use Rattle.decimal_faults.specs.declared.geometry.GeometryForm.{GeometryForm}
use Rattle.decimal_faults.specs.declared.geometry.GeometryForm.TheVariants.{Simple, Collection}
use Rattle.decimal_faults.specs.declared.outline.Outline.{Outline}
use Rattle.decimal_faults.specs.declared.outline.Outline.TheVariants.{Line, Ring}
use Rattle.decimal_faults.proofs.Nested.{each_is}

-- ---- wholes, by their parts

pub beyond_each : (of : Json → List Pair) (i j : ℕ) (js : Items) → i < j → IsBeyond (index i) (each_faults of j js)
beyond_each of i j no_items less = beyond_none (index i)
beyond_each of i j (item k js) less =
    beyond_append (index i) (under (index j) (of k)) _ (beyond_under (index i) (index j) (of k) (sym (nat_cmp_is i j Less less))) (beyond_each of i (j + 1) js (omega arith))

pub either : (b : Bool) (ps qs : List Pair) → IsAscending ps → IsAscending qs → IsAscending (if b then ps else qs)
either true ps qs a b = a
either false ps qs a b = b

module _ (of : Json → List Pair) (each : (j : Json) → IsAscending (of j)) where
  pub each_ascends : (i : ℕ) (js : Items) → IsAscending (each_faults of i js)
  each_ascends i no_items = ascending_none
  each_ascends i (item j js) = ascending_more (index i) (of j) _ (each j) (beyond_each of i (i + 1) js (omega arith)) (each_ascends (i + 1) js)

  pub list_ascends : (j : Json) → IsAscending (list_faults of j)
  list_ascends j = go (as_array j)
    where
      go : (o : Option Items) → IsAscending (array_faults (each_faults of 0) o)
      go None = ascending_here kind.WrongKind
      go (Some js) = each_ascends 0 js

  pub there_ascends : (o : Option Json) → IsAscending (there of o)
  there_ascends None = ascending_here kind.Missing
  there_ascends (Some k) = each k

  pub member_ascends : (n : List ℕ) (j : Json) → IsAscending (member_faults n of j)
  member_ascends n j = ascending_under (name n) (there of (get n j)) (there_ascends (get n j))

  if_ascends : (o : Option Json) → IsAscending (if_there of o)
  if_ascends None = ascending_none
  if_ascends (Some j) = each j

pub object_ascends : (ps : List Pair) (o : Option Members) → IsAscending ps → IsAscending (object_faults ps o)
object_ascends ps None a = ascending_here kind.WrongKind
object_ascends ps (Some ms) a = a

pub numeral_ascends : (of : List ℕ → List Pair) → ((text : List ℕ) → IsAscending (of text)) → (o : Option (List ℕ)) → IsAscending (numeral_faults of o)
numeral_ascends of each None = ascending_here kind.WrongKind
numeral_ascends of each (Some text) = each text

-- ---- positions

number_ascends : (s : Measure) (greatest : ℕ) (text : List ℕ) → IsAscending (number_faults s greatest text)
unfolding number_faults
number_ascends s greatest text = either (is_numeral text && nat_le (steps_of s text) (min greatest (2 ^ 40))) [] (here kind.OutOfRange) ascending_none (ascending_here kind.OutOfRange)

pub height_ascends : (j : Json) → IsAscending (height_faults j)
height_ascends j = numeral_ascends (λ text. []) (λ text. ascending_none) (as_number j)

module _ (grid : DecimalGrid) where
  numbers_ascend : (js : Items) → IsAscending (numbers_faults grid js)
  numbers_ascend no_items = ascending_here kind.NotTwo
  numbers_ascend (item x no_items) = ascending_here kind.NotTwo
  numbers_ascend (item x (item y js)) =
      let xs = coordinate_faults grid.step grid.greatest_x x in
      let ys = coordinate_faults grid.step grid.greatest_y y in
      let hs = each_faults height_faults 2 js in
      either (may_have grid (item x (item y js))) (both_faults grid (item x (item y js)) ++ hs) (here kind.NotTwo)
      (subst IsAscending (sym (append_assoc (under (index 0) xs) (under (index 1) ys) hs))
      (ascending_more (index 0) xs (under (index 1) ys ++ hs) (numeral_ascends (number_faults grid.step grid.greatest_x) (number_ascends grid.step grid.greatest_x) (as_number x))
      (beyond_append (index 0) (under (index 1) ys) hs (beyond_under (index 0) (index 1) ys refl) (beyond_each height_faults 0 2 js (omega arith)))
      (ascending_more (index 1) ys hs (numeral_ascends (number_faults grid.step grid.greatest_y) (number_ascends grid.step grid.greatest_y) (as_number y)) (beyond_each height_faults 1 2 js (omega arith)) (each_ascends height_faults height_ascends 2 js))))
      (ascending_here kind.NotTwo)

  position_ascends : (j : Json) → IsAscending (position_faults grid j)
  position_ascends j = go (as_array j)
    where
      go : (o : Option Items) → IsAscending (array_faults (numbers_faults grid) o)
      go None = ascending_here kind.WrongKind
      go (Some js) = numbers_ascend js

  module _ (fixing : FixingRules) where
    outline_ascends : (outline : Outline) (j : Json) → IsAscending (outline_at_faults grid fixing outline j)
    outline_ascends outline j =
        ascending_unless (list_faults (position_faults grid) j) (outline_faults (unfixed_as fixing outline (positions_of grid.step j)))
        (list_ascends (position_faults grid) position_ascends j) (ascending_outline (unfixed_as fixing outline (positions_of grid.step j)))

    coordinates_ascend : (k : GeometryType) (j : Json) → IsAscending (coordinates_faults grid fixing k j)
    coordinates_ascend Point j = either (is_nothing (as_array j)) [] (position_faults grid j) ascending_none (position_ascends j)
    coordinates_ascend MultiPoint j = list_ascends (position_faults grid) position_ascends j
    coordinates_ascend LineString j = outline_ascends Line j
    coordinates_ascend MultiLineString j = list_ascends (outline_at_faults grid fixing Line) (outline_ascends Line) j
    coordinates_ascend Polygon j = list_ascends (outline_at_faults grid fixing Ring) (outline_ascends Ring) j
    coordinates_ascend MultiPolygon j = list_ascends (list_faults (outline_at_faults grid fixing Ring)) (list_ascends (outline_at_faults grid fixing Ring) (outline_ascends Ring)) j

    -- ---- geometries

    form_ascends : (j : Json) (within : List Pair) → IsAscending within → (f : GeometryForm) → IsAscending (form_faults grid fixing j within f)
    form_ascends j within a (Simple k) = member_ascends (coordinates_faults grid fixing k) (coordinates_ascend k) (codes "coordinates") j
    form_ascends j within a Collection =
        either fixing.splits_collections (under (name (codes "geometries")) within) (under (name (codes "type")) (here kind.UnknownType)) (ascending_under (name (codes "geometries")) within a)
        (ascending_under (name (codes "type")) (here kind.UnknownType) (ascending_here kind.UnknownType))

AscendsIf : Option (List Pair) → Type 0
AscendsIf None = Unit {0}
AscendsIf (Some ps) = IsAscending ps

later_ascends : (o : Option (List Pair)) (b : Bool) (ps : List Pair) → AscendsIf o → IsAscending ps → AscendsIf (later o (if b then Some ps else None))
unfolding AscendsIf
later_ascends None true ps a c = c
later_ascends None false ps a c = tt
later_ascends (Some qs) b ps a c = a

missing_ascends : (o : Option (List Pair)) → AscendsIf o → IsAscending (or_missing o)
unfolding AscendsIf
missing_ascends None a = ascending_here kind.Missing
missing_ascends (Some ps) a = a

mutual
  unfolding AscendsIf geometry_faults

  geometry_ascends : (grid : DecimalGrid) (fixing : FixingRules) (j : Json) → IsAscending (geometry_faults grid fixing j)
  geometry_ascends grid fixing null = ascending_here kind.WrongKind
  geometry_ascends grid fixing (boolean b) = ascending_here kind.WrongKind
  geometry_ascends grid fixing (number s) = ascending_here kind.WrongKind
  geometry_ascends grid fixing (string s) = ascending_here kind.WrongKind
  geometry_ascends grid fixing (array js) = ascending_here kind.WrongKind
  geometry_ascends grid fixing (object ms) =
      ascending_typed (form_faults grid fixing (object ms) (or_missing (geometries_in grid fixing ms))) (form_of (object ms))
      (form_ascends grid fixing (object ms) (or_missing (geometries_in grid fixing ms)) (missing_ascends (geometries_in grid fixing ms) (in_ascends grid fixing ms)))

  geometries_ascend : (grid : DecimalGrid) (fixing : FixingRules) (j : Json) → IsAscending (geometries_faults grid fixing j)
  geometries_ascend grid fixing null = ascending_here kind.WrongKind
  geometries_ascend grid fixing (boolean b) = ascending_here kind.WrongKind
  geometries_ascend grid fixing (number s) = ascending_here kind.WrongKind
  geometries_ascend grid fixing (string s) = ascending_here kind.WrongKind
  geometries_ascend grid fixing (array js) = each_geometry_ascends grid fixing 0 js
  geometries_ascend grid fixing (object ms) = ascending_here kind.WrongKind

  each_geometry_ascends : (grid : DecimalGrid) (fixing : FixingRules) (i : ℕ) (js : Items) → IsAscending (each_geometry_faults grid fixing i js)
  each_geometry_ascends grid fixing i no_items = ascending_none
  each_geometry_ascends grid fixing i (item j js) =
      ascending_more (index i) (geometry_faults grid fixing j) (each_geometry_faults grid fixing (i + 1) js) (geometry_ascends grid fixing j)
      (subst (IsBeyond (index i)) (sym (each_is grid fixing (i + 1) js)) (beyond_each (geometry_faults grid fixing) i (i + 1) js (omega arith))) (each_geometry_ascends grid fixing (i + 1) js)

  in_ascends : (grid : DecimalGrid) (fixing : FixingRules) (ms : Members) → AscendsIf (geometries_in grid fixing ms)
  in_ascends grid fixing no_members = tt
  in_ascends grid fixing (member k j ms) = later_ascends (geometries_in grid fixing ms) (bytes_eq k (codes "geometries")) (geometries_faults grid fixing j) (in_ascends grid fixing ms) (geometries_ascend grid fixing j)

-- ---- features and maps

module _ (rules : MapRules) (fixing : FixingRules) where
  null_ascends : (j : Json) → IsAscending (unless_null (geometry_faults rules.grid fixing) j)
  null_ascends j = either (is_null j) [] (geometry_faults rules.grid fixing j) ascending_none (geometry_ascends rules.grid fixing j)

  members_ascend : (j : Json) → IsAscending (feature_members_faults rules fixing j)
  members_ascend j =
      let i = get (codes "id") j in
      let p = get (codes "properties") j in
      ascending_more (name (codes "geometry")) (if_there (unless_null (geometry_faults rules.grid fixing)) (get (codes "geometry") j)) (attributes_faults rules.attributes i p)
      (if_ascends (unless_null (geometry_faults rules.grid fixing)) null_ascends (get (codes "geometry") j)) (beyond_attributes (codes "geometry") rules.attributes i p refl refl) (ascending_attributes rules.attributes i p)

  feature_ascends : (j : Json) → IsAscending (feature_faults rules fixing j)
  feature_ascends j =
      object_ascends _ (as_object j) (ascending_typed (λ t. feature_members_faults rules fixing j) (named (of_type (codes "Feature")) (type_text j)) (λ t. members_ascend j))

  root_ascends : (j : Json) (r : Result (List ℕ) FaultKind) → IsAscending (root_faults rules fixing j r)
  root_ascends j (Err k) = geometry_ascends rules.grid fixing j
  root_ascends j (Ok s) =
      either (bytes_eq s (codes "FeatureCollection")) _ _ (member_ascends (list_faults (feature_faults rules fixing)) (list_ascends (feature_faults rules fixing) feature_ascends) (codes "features") j)
      (either (bytes_eq s (codes "Feature")) _ _ (members_ascend j) (geometry_ascends rules.grid fixing j))

  document_ascends : (o : Option Json) → IsAscending (document_faults rules fixing o)
  document_ascends None = ascending_here kind.NotJson
  document_ascends (Some j) = root_ascends j (type_text j)

  pub map_in_order : (j : Json) (qs : List Pair) → qs ≡ map_faults rules fixing j → IsAscending qs
  map_in_order j qs is = subst IsAscending (sym is) (root_ascends j (type_text j))

  pub text_in_order : (bytes : List ℕ) (qs : List Pair) → qs ≡ faults_of_text rules fixing bytes → IsAscending qs
  text_in_order bytes qs is = subst IsAscending (sym is) (document_ascends (if is_utf8 bytes then document bytes else None))
