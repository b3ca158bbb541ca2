-- The faults of a topology are listed in order.
use Rattle.std.proofs.Common.{◌≡◌, ℕ, ◌+◌, ◌<◌, Bool, true, false, List, [], ◌∷◌, ◌++◌, length, Option, Some, None, Result, Ok, Err, Less, Equal, Greater, codes, bytes_eq, if◌then◌else◌, refl, sym, ap, ◌∙◌, subst, arith, append_assoc}
use Rattle.std.proofs.lemmas.Cmp.{nat_list_cmp_total}
use Rattle.std.specs.BTreeMap.{insert_entry}
use Rattle.std.specs.Cmp.{nat_cmp_is}
use Rattle.std.specs.Cmp.Lexicographic.{slice_cmp}
use Rattle.std.specs.Ordering.{match_ordering, nat_cmp, ordering_reverse}
use Rattle.std.specs.declared.cmp.Ordering.{Ordering}
use Rattle.json.specs.Json.{Json, null, boolean, number, string, array, object, Items, no_items, item, Members, no_members, member}
use Rattle.json.specs.Find.{get, as_array, as_object}
use Rattle.faults.specs.Path.{name, index}
use Rattle.faults.specs.Fault.{Pair}
use Rattle.faults.specs.declared.fault.FaultKind.{FaultKind}
use Rattle.faults.specs.declared.fault.FaultKind.TheVariants as kind
use Rattle.fixing.specs.declared.rules.FixingRules.{FixingRules}
use Rattle.grid.specs.declared.pos.Pos.{Pos}
use Rattle.lines.specs.Pairs.{position_eq}
use Rattle.attributes.specs.Refusals.{attributes_faults}
use Rattle.attributes.proofs.Order.{ascending_attributes, beyond_attributes}
use Rattle.reading.specs.Fault.{here, turn_cmp, under}
use Rattle.reading.specs.FaultLists.Ascending.{IsAscending}
use Rattle.reading.specs.Parts.{named, of_type}
use Rattle.reading.specs.declared.geometry.GeometryType.{GeometryType}
use Rattle.reading.specs.declared.geometry.GeometryType.TheVariants.{Point, MultiPoint, LineString, MultiLineString, Polygon, MultiPolygon}
use Rattle.reading.proofs.FaultListsLemmas.Ascending.{IsBeyond, ascending_here, ascending_more, ascending_none, ascending_outline, ascending_typed, ascending_under, ascending_unless, beyond_append, beyond_none, beyond_under}
use Rattle.decimal_maps.specs.declared.rules.MapRules.{MapRules}
use Rattle.decimal_faults.specs.Geometries.{is_nothing, later, or_missing}
use Rattle.decimal_faults.specs.Outlines.{unfixed_as}
use Rattle.decimal_faults.specs.Parts.{array_faults, each_faults, if_there, list_faults, member_faults, there, type_text}
use Rattle.decimal_faults.specs.Positions.{height_faults, may_have}
use Rattle.decimal_faults.specs.declared.geometry.GeometryForm.{GeometryForm}
use Rattle.decimal_faults.specs.declared.geometry.GeometryForm.TheVariants.{Simple, Collection}
use Rattle.decimal_faults.specs.declared.outline.Outline.{Outline}
use Rattle.decimal_faults.specs.declared.outline.Outline.TheVariants.{Line, Ring}
use Rattle.decimal_faults.proofs.Order.{beyond_each, each_ascends, either, height_ascends, list_ascends, member_ascends, object_ascends, there_ascends}
use Rattle.decimal_topologies.specs.Features.{feature_faults, feature_members_faults, has_features, layer_faults}
use Rattle.decimal_topologies.specs.Geometries.{TopologyParts, body_faults, body_name, each_geometry_faults, form_faults, form_under, geometries_faults, geometries_in, geometry_faults}
use Rattle.decimal_topologies.specs.Layers.{Named, chosen_faults, layers_faults, layers_if_object, members_in_order, objects_faults, with_members}
use Rattle.decimal_arcs.specs.Arcs.{arc_faults, arc_items_faults, arcs_faults, faults_if, steps_faults}
use Rattle.decimal_arcs.specs.Places as place
use Rattle.decimal_arcs.specs.Places.{both_of, fault_in, first_sums, next_sums, position_faults, step_faults}
use Rattle.decimal_arcs.specs.Transforms as transform
use Rattle.decimal_arcs.specs.Transforms.{quantization_of, transform_faults}
use Rattle.decimal_topologies.specs.Roots.{chosen, content_of, if_array, if_there as arcs_if_there, parts_in, topology_faults, topology_members_faults, used_in}
use Rattle.decimal_arcs.specs.declared.axes.Reached.{Reached}
use Rattle.decimal_arcs.specs.declared.places.RunningSums.{RunningSums}
use Rattle.decimal_arcs.specs.Seen.{Arcs}
use Rattle.decimal_topologies.specs.Stitching.{along, along_if, are_known, arcs_outline_faults, begins, ends, items_faults, joint_faults, number_faults, numbers_faults, positions_along, ref_of, stitched_faults}
use Rattle.decimal_topologies.specs.declared.numbers.ArcRef.{ArcRef}
use Rattle.decimal_arcs.specs.declared.place.Quantization.{Quantization}
use Rattle.decimal_topologies.specs.declared.rules.TopologyRules.{TopologyRules}
use Rattle.decimal_topologies.proofs.Nested.{each_is}

-- ---- positions

fault_ascends : (r : Result (Option Reached) FaultKind) → IsAscending (fault_in r)
fault_ascends (Err k) = ascending_here k
fault_ascends (Ok r) = ascending_none

module _ (q : Quantization) where
  two_ascend : (s : RunningSums) (js : Items) → IsAscending (place.numbers_faults q s js)
  two_ascend s no_items = ascending_here kind.NotTwo
  two_ascend s (item x no_items) = ascending_here kind.NotTwo
  two_ascend s (item x (item y js)) =
      let xs = fault_in (both_of q s x y).x in
      let ys = fault_in (both_of q s x y).y in
      let hs = each_faults height_faults 2 js in
      either (may_have q.grid (item x (item y js))) ((under (index 0) xs ++ under (index 1) ys) ++ hs) (here kind.NotTwo)
      (subst IsAscending (sym (append_assoc (under (index 0) xs) (under (index 1) ys) hs))
      (ascending_more (index 0) xs (under (index 1) ys ++ hs) (fault_ascends (both_of q s x y).x)
      (beyond_append (index 0) (under (index 1) ys) hs (beyond_under (index 0) (index 1) ys refl) (beyond_each height_faults 0 2 js (omega arith)))
      (ascending_more (index 1) ys hs (fault_ascends (both_of q s x y).y) (beyond_each height_faults 1 2 js (omega arith)) (each_ascends height_faults height_ascends 2 js))))
      (ascending_here kind.NotTwo)

  step_ascends : (s : RunningSums) (j : Json) → IsAscending (step_faults q s j)
  step_ascends s j = go (as_array j)
    where
      go : (o : Option Items) → IsAscending (array_faults (place.numbers_faults q s) o)
      go None = ascending_here kind.WrongKind
      go (Some js) = two_ascend s js

  -- ---- arcs

  beyond_steps : (s : RunningSums) (i j : ℕ) (js : Items) → i < j → IsBeyond (index i) (steps_faults q s j js)
  beyond_steps s i j no_items less = beyond_none (index i)
  beyond_steps s i j (item k js) less =
      beyond_append (index i) (under (index j) (step_faults q s k)) _ (beyond_under (index i) (index j) (step_faults q s k) (sym (nat_cmp_is i j Less less))) (beyond_steps (next_sums q s k) i (j + 1) js (omega arith))

  steps_ascend : (s : RunningSums) (i : ℕ) (js : Items) → IsAscending (steps_faults q s i js)
  steps_ascend s i no_items = ascending_none
  steps_ascend s i (item j js) = ascending_more (index i) (step_faults q s j) _ (step_ascends s j) (beyond_steps (next_sums q s j) i (i + 1) js (omega arith)) (steps_ascend (next_sums q s j) (i + 1) js)

  arc_items_ascend : (js : Items) → IsAscending (arc_items_faults q js)
  arc_items_ascend no_items = ascending_here kind.TooShort
  arc_items_ascend (item j js) = steps_ascend first_sums 0 (item j js)

  arc_ascends : (j : Json) → IsAscending (arc_faults q j)
  arc_ascends j = go (as_array j)
    where
      go : (o : Option Items) → IsAscending (array_faults (arc_items_faults q) o)
      go None = ascending_here kind.WrongKind
      go (Some js) = arc_items_ascend js

  used_ascends : (u : Bool) (j : Json) → IsAscending (faults_if u q j)
  used_ascends false j = ascending_none
  used_ascends true j = arc_ascends j

  beyond_arcs : (us : List Bool) (i j : ℕ) (js : Items) → i < j → IsBeyond (index i) (arcs_faults q us j js)
  beyond_arcs [] i j js less = beyond_none (index i)
  beyond_arcs (u ∷ us) i j no_items less = beyond_none (index i)
  beyond_arcs (u ∷ us) i j (item k js) less =
      beyond_append (index i) (under (index j) (faults_if u q k)) _ (beyond_under (index i) (index j) (faults_if u q k) (sym (nat_cmp_is i j Less less))) (beyond_arcs us i (j + 1) js (omega arith))

  arcs_ascend : (us : List Bool) (i : ℕ) (js : Items) → IsAscending (arcs_faults q us i js)
  arcs_ascend [] i js = ascending_none
  arcs_ascend (u ∷ us) i no_items = ascending_none
  arcs_ascend (u ∷ us) i (item j js) = ascending_more (index i) (faults_if u q j) _ (used_ascends u j) (beyond_arcs us i (i + 1) js (omega arith)) (arcs_ascend us (i + 1) js)

-- ---- numbers of arcs

joint_ascends : (p q : Option Pos) → IsAscending (joint_faults p q)
joint_ascends None q = ascending_none
joint_ascends (Some p) None = ascending_none
joint_ascends (Some p) (Some q) = either (position_eq p q) [] (here kind.Broken) ascending_none (ascending_here kind.Broken)

number_ascends : (arcs : Arcs) (end : Option Pos) (r : Result ArcRef FaultKind) → IsAscending (number_faults arcs end r)
number_ascends arcs end (Err k) = ascending_here k
number_ascends arcs end (Ok u) = joint_ascends end (begins (along arcs u))

beyond_numbers : (arcs : Arcs) (end : Option Pos) (i j : ℕ) (js : Items) → i < j → IsBeyond (index i) (numbers_faults arcs end j js)
beyond_numbers arcs end i j no_items less = beyond_none (index i)
beyond_numbers arcs end i j (item k js) less =
    let r = ref_of (length arcs) k in
    beyond_append (index i) (under (index j) (number_faults arcs end r)) _ (beyond_under (index i) (index j) (number_faults arcs end r) (sym (nat_cmp_is i j Less less)))
    (beyond_numbers arcs (ends (along_if arcs r)) i (j + 1) js (omega arith))

numbers_ascend : (arcs : Arcs) (end : Option Pos) (i : ℕ) (js : Items) → IsAscending (numbers_faults arcs end i js)
numbers_ascend arcs end i no_items = ascending_none
numbers_ascend arcs end i (item j js) =
    let r = ref_of (length arcs) j in
    ascending_more (index i) (number_faults arcs end r) _ (number_ascends arcs end r) (beyond_numbers arcs (ends (along_if arcs r)) i (i + 1) js (omega arith)) (numbers_ascend arcs (ends (along_if arcs r)) (i + 1) js)

module _ (arcs : Arcs) (fixing : FixingRules) (outline : Outline) where
  stitched_ascends : (js : Items) → IsAscending (stitched_faults arcs fixing outline js)
  stitched_ascends js = either (are_known arcs js) _ [] (ascending_outline (unfixed_as fixing outline (positions_along arcs js))) ascending_none

  outline_ascends : (j : Json) → IsAscending (arcs_outline_faults arcs fixing outline j)
  outline_ascends j = go (as_array j)
    where
      go : (o : Option Items) → IsAscending (array_faults (items_faults arcs fixing outline) o)
      go None = ascending_here kind.WrongKind
      go (Some js) = ascending_unless (numbers_faults arcs None 0 js) (stitched_faults arcs fixing outline js) (numbers_ascend arcs None 0 js) (stitched_ascends js)

-- ---- geometries

AscendsIf : Option (List Pair) → Type 0
AscendsIf None = Unit {0}
AscendsIf (Some ps) = IsAscending ps

later_ascends : (o : Option (List Pair)) (b : Bool) (ps : List Pair) → AscendsIf o → IsAscending ps → AscendsIf (later o (if b then Some ps else None))
unfolding AscendsIf
later_ascends None true ps a c = c
later_ascends None false ps a c = tt
later_ascends (Some qs) b ps a c = a

missing_ascends : (o : Option (List Pair)) → AscendsIf o → IsAscending (or_missing o)
unfolding AscendsIf
missing_ascends None a = ascending_here kind.Missing
missing_ascends (Some ps) a = a

position_ascends : (q : Quantization) (j : Json) → IsAscending (position_faults q j)
position_ascends q j = step_ascends q first_sums j

module _ (t : TopologyParts) (fixing : FixingRules) where
  body_ascends : (k : GeometryType) (j : Json) → IsAscending (body_faults t fixing k j)
  body_ascends Point j = either (is_nothing (as_array j)) [] (position_faults t.quantization j) ascending_none (position_ascends t.quantization j)
  body_ascends MultiPoint j = list_ascends (position_faults t.quantization) (position_ascends t.quantization) j
  body_ascends LineString j = outline_ascends t.arcs fixing Line j
  body_ascends MultiLineString j = list_ascends (arcs_outline_faults t.arcs fixing Line) (outline_ascends t.arcs fixing Line) j
  body_ascends Polygon j = list_ascends (arcs_outline_faults t.arcs fixing Ring) (outline_ascends t.arcs fixing Ring) j
  body_ascends MultiPolygon j = list_ascends (list_faults (arcs_outline_faults t.arcs fixing Ring)) (list_ascends (arcs_outline_faults t.arcs fixing Ring) (outline_ascends t.arcs fixing Ring)) j

  form_ascends : (j : Json) (within : List Pair) → IsAscending within → (f : Option GeometryForm) → IsAscending (form_faults t fixing j within f)
  form_ascends j within a None = ascending_none
  form_ascends j within a (Some (Simple k)) = member_ascends (body_faults t fixing k) (body_ascends k) (body_name k) j
  form_ascends j within a (Some Collection) = ascending_under (name (codes "geometries")) within a

mutual
  unfolding AscendsIf geometry_faults

  geometry_ascends : (t : TopologyParts) (fixing : FixingRules) → (j : Json) → IsAscending (geometry_faults t fixing j)
  geometry_ascends t fixing null = ascending_here kind.WrongKind
  geometry_ascends t fixing (boolean b) = ascending_here kind.WrongKind
  geometry_ascends t fixing (number s) = ascending_here kind.WrongKind
  geometry_ascends t fixing (string s) = ascending_here kind.WrongKind
  geometry_ascends t fixing (array js) = ascending_here kind.WrongKind
  geometry_ascends t fixing (object ms) =
      ascending_typed (form_faults t fixing (object ms) (or_missing (geometries_in t fixing ms))) (form_under fixing (object ms))
      (form_ascends t fixing (object ms) (or_missing (geometries_in t fixing ms)) (missing_ascends (geometries_in t fixing ms) (in_ascends t fixing ms)))

  geometries_ascend : (t : TopologyParts) (fixing : FixingRules) → (j : Json) → IsAscending (geometries_faults t fixing j)
  geometries_ascend t fixing null = ascending_here kind.WrongKind
  geometries_ascend t fixing (boolean b) = ascending_here kind.WrongKind
  geometries_ascend t fixing (number s) = ascending_here kind.WrongKind
  geometries_ascend t fixing (string s) = ascending_here kind.WrongKind
  geometries_ascend t fixing (array js) = each_geometry_ascends t fixing 0 js
  geometries_ascend t fixing (object ms) = ascending_here kind.WrongKind

  each_geometry_ascends : (t : TopologyParts) (fixing : FixingRules) → (i : ℕ) (js : Items) → IsAscending (each_geometry_faults t fixing i js)
  each_geometry_ascends t fixing i no_items = ascending_none
  each_geometry_ascends t fixing i (item j js) =
      ascending_more (index i) (geometry_faults t fixing j) (each_geometry_faults t fixing (i + 1) js) (geometry_ascends t fixing j)
      (subst (IsBeyond (index i)) (sym (each_is t fixing (i + 1) js)) (beyond_each (geometry_faults t fixing) i (i + 1) js (omega arith))) (each_geometry_ascends t fixing (i + 1) js)

  in_ascends : (t : TopologyParts) (fixing : FixingRules) → (ms : Members) → AscendsIf (geometries_in t fixing ms)
  in_ascends t fixing no_members = tt
  in_ascends t fixing (member k j ms) = later_ascends (geometries_in t fixing ms) (bytes_eq k (codes "geometries")) (geometries_faults t fixing j) (in_ascends t fixing ms) (geometries_ascend t fixing j)

-- ---- names in their order

abbrev cmp : List ℕ → List ℕ → Ordering
cmp = slice_cmp nat_cmp

-- a name is before all of these
abbrev Above : List ℕ → Named → Type 0
Above n [] = Unit {0}
Above n (l ∷ ls) = (cmp n l.0 ≡ Less) × Above n ls

-- each name is before those behind it
abbrev AreInOrder : Named → Type 0
AreInOrder [] = Unit {0}
AreInOrder (l ∷ ls) = Above l.0 ls × AreInOrder ls

above_less : (n k : List ℕ) (ls : Named) → cmp n k ≡ Less → Above k ls → Above n ls
above_less n k [] less above = tt
above_less n k (l ∷ ls) less above = (nat_list_cmp_total.trans n k l.0 less above.0, above_less n k ls less above.1)

insert_above : (n k : List ℕ) (j : Json) (ls : Named) → cmp n k ≡ Less → Above n ls → Above n (insert_entry cmp ls k j)
insert_above n k j [] less above = (less, tt)
insert_above n k j (l ∷ ls) less above = go (cmp k l.0) (insert_above n k j ls less above.1)
  where
    go : (o : Ordering) → Above n (insert_entry cmp ls k j) → Above n (match_ordering o ((k, j) ∷ l ∷ ls) ((l.0, j) ∷ ls) (l ∷ insert_entry cmp ls k j))
    go Less more = (less, above)
    go Equal more = above
    go Greater more = (above.0, more)

insert_in_order : (k : List ℕ) (j : Json) (ls : Named) → AreInOrder ls → AreInOrder (insert_entry cmp ls k j)
insert_in_order k j [] sorted = (tt, tt)
insert_in_order k j (l ∷ ls) sorted = go (cmp k l.0) refl (insert_in_order k j ls sorted.1)
  where
    go : (o : Ordering) → cmp k l.0 ≡ o → AreInOrder (insert_entry cmp ls k j) → AreInOrder (match_ordering o ((k, j) ∷ l ∷ ls) ((l.0, j) ∷ ls) (l ∷ insert_entry cmp ls k j))
    go Less less more = ((less, above_less k l.0 ls less sorted.0), sorted)
    go Equal same more = sorted
    go Greater after more = (insert_above l.0 k j ls (nat_list_cmp_total.antisymm l.0 k ∙ ap ordering_reverse after) sorted.0, more)

members_are_in_order : (ls : Named) (ms : Members) → AreInOrder ls → AreInOrder (with_members ls ms)
members_are_in_order ls no_members sorted = sorted
members_are_in_order ls (member k j ms) sorted = members_are_in_order (insert_entry cmp ls k j) ms (insert_in_order k j ls sorted)

-- ---- features and layers

module _ (t : TopologyParts) (rules : MapRules) (fixing : FixingRules) where
  -- a part under a name, and an id and properties behind it
  with_attributes : (n : List ℕ) (ps : List Pair) (j : Json) → turn_cmp (name n) (name (codes "id")) ≡ Less → turn_cmp (name n) (name (codes "properties")) ≡ Less → IsAscending ps
      → IsAscending (under (name n) ps ++ attributes_faults rules.attributes (get (codes "id") j) (get (codes "properties") j))
  with_attributes n ps j own properties a =
      let i = get (codes "id") j in
      let q = get (codes "properties") j in
      ascending_more (name n) ps (attributes_faults rules.attributes i q) a (beyond_attributes n rules.attributes i q own properties) (ascending_attributes rules.attributes i q)

  simple_ascends : (j : Json) (k : GeometryType) → IsAscending (feature_members_faults t rules fixing j (Some (Simple k)))
  simple_ascends j Point = with_attributes (codes "coordinates") (there (body_faults t fixing Point) (get (codes "coordinates") j)) j refl refl (there_ascends (body_faults t fixing Point) (body_ascends t fixing Point) (get (codes "coordinates") j))
  simple_ascends j MultiPoint = with_attributes (codes "coordinates") (there (body_faults t fixing MultiPoint) (get (codes "coordinates") j)) j refl refl (there_ascends (body_faults t fixing MultiPoint) (body_ascends t fixing MultiPoint) (get (codes "coordinates") j))
  simple_ascends j LineString = with_attributes (codes "arcs") (there (body_faults t fixing LineString) (get (codes "arcs") j)) j refl refl (there_ascends (body_faults t fixing LineString) (body_ascends t fixing LineString) (get (codes "arcs") j))
  simple_ascends j MultiLineString =
      with_attributes (codes "arcs") (there (body_faults t fixing MultiLineString) (get (codes "arcs") j)) j refl refl (there_ascends (body_faults t fixing MultiLineString) (body_ascends t fixing MultiLineString) (get (codes "arcs") j))
  simple_ascends j Polygon = with_attributes (codes "arcs") (there (body_faults t fixing Polygon) (get (codes "arcs") j)) j refl refl (there_ascends (body_faults t fixing Polygon) (body_ascends t fixing Polygon) (get (codes "arcs") j))
  simple_ascends j MultiPolygon = with_attributes (codes "arcs") (there (body_faults t fixing MultiPolygon) (get (codes "arcs") j)) j refl refl (there_ascends (body_faults t fixing MultiPolygon) (body_ascends t fixing MultiPolygon) (get (codes "arcs") j))

  members_ascend : (j : Json) (f : Option GeometryForm) → IsAscending (feature_members_faults t rules fixing j f)
  members_ascend j None = ascending_attributes rules.attributes (get (codes "id") j) (get (codes "properties") j)
  members_ascend j (Some (Simple k)) = simple_ascends j k
  members_ascend j (Some Collection) = with_attributes (codes "geometries") (there (geometries_faults t fixing) (get (codes "geometries") j)) j refl refl (there_ascends (geometries_faults t fixing) (geometries_ascend t fixing) (get (codes "geometries") j))

  feature_ascends : (j : Json) → IsAscending (feature_faults t rules fixing j)
  feature_ascends j = object_ascends _ (as_object j) (ascending_typed (feature_members_faults t rules fixing j) (form_under fixing j) (members_ascend j))

  layer_ascends : (j : Json) → IsAscending (layer_faults t rules fixing j)
  layer_ascends j =
      either (has_features j) _ _ (member_ascends (list_faults (feature_faults t rules fixing)) (list_ascends (feature_faults t rules fixing) feature_ascends) (codes "geometries") j) (feature_ascends j)

  beyond_layers : (n : List ℕ) (ls : Named) → Above n ls → IsBeyond (name n) (layers_faults t rules fixing ls)
  beyond_layers n [] above = beyond_none (name n)
  beyond_layers n (l ∷ ls) above =
      beyond_append (name n) (under (name l.0) (layer_faults t rules fixing l.1)) _ (beyond_under (name n) (name l.0) (layer_faults t rules fixing l.1) above.0) (beyond_layers n ls above.1)

  layers_ascend : (ls : Named) → AreInOrder ls → IsAscending (layers_faults t rules fixing ls)
  layers_ascend [] sorted = ascending_none
  layers_ascend (l ∷ ls) sorted = ascending_more (name l.0) (layer_faults t rules fixing l.1) _ (layer_ascends l.1) (beyond_layers l.0 ls sorted.0) (layers_ascend ls sorted.1)

  pub objects_ascend : (j : Json) → IsAscending (objects_faults t rules fixing j)
  objects_ascend j = go (as_object j)
    where
      go : (o : Option Members) → IsAscending (layers_if_object t rules fixing o)
      go None = ascending_here kind.WrongKind
      go (Some ms) = layers_ascend (members_in_order ms) (members_are_in_order [] ms tt)

  pub chosen_ascend : (n : Option (List ℕ)) (j : Json) → IsAscending (chosen_faults t rules fixing n j)
  chosen_ascend None j = objects_ascend j
  chosen_ascend (Some n) j = object_ascends _ (as_object j) (member_ascends (layer_faults t rules fixing) layer_ascends n j)

-- ---- the transform

number_is : (j : Json) → IsAscending (transform.number_faults j)
number_is j = height_ascends j

pair_ascends : (j : Json) → IsAscending (transform.pair_faults j)
pair_ascends j = go (as_array j)
  where
    two : (js : Items) → IsAscending (transform.two_faults js)
    two no_items = ascending_here kind.NotTwo
    two (item x no_items) = ascending_here kind.NotTwo
    two (item x (item y no_items)) =
        ascending_more (index 0) (transform.number_faults x) (under (index 1) (transform.number_faults y)) (number_is x) (beyond_under (index 0) (index 1) (transform.number_faults y) refl)
        (ascending_under (index 1) (transform.number_faults y) (number_is y))
    two (item x (item y (item z js))) = ascending_here kind.NotTwo

    go : (o : Option Items) → IsAscending (array_faults transform.two_faults o)
    go None = ascending_here kind.WrongKind
    go (Some js) = two js

fit_ascends : (text other : List ℕ) → IsAscending (transform.fit_faults text other)
fit_ascends text other = either (transform.is_fit text other) [] (here kind.OutOfRange) ascending_none (ascending_here kind.OutOfRange)

fits_ascend : (texts others : List ℕ × List ℕ) → IsAscending (transform.fits_faults texts others)
fits_ascend texts others =
    ascending_more (index 0) (transform.fit_faults texts.0 others.0) (under (index 1) (transform.fit_faults texts.1 others.1)) (fit_ascends texts.0 others.0)
    (beyond_under (index 0) (index 1) (transform.fit_faults texts.1 others.1) refl) (ascending_under (index 1) (transform.fit_faults texts.1 others.1) (fit_ascends texts.1 others.1))

limits_ascend : (scale translate : List ℕ × List ℕ) → IsAscending (transform.limit_faults scale translate)
limits_ascend scale translate =
    ascending_more (name (codes "scale")) (transform.fits_faults scale translate) (under (name (codes "translate")) (transform.fits_faults translate scale)) (fits_ascend scale translate)
    (beyond_under (name (codes "scale")) (name (codes "translate")) (transform.fits_faults translate scale) refl) (ascending_under (name (codes "translate")) (transform.fits_faults translate scale) (fits_ascend translate scale))

numbers_are : (j : Json) → IsAscending (transform.numbers_faults j)
numbers_are j =
    ascending_unless (transform.members_faults j) _
    (ascending_more (name (codes "scale")) (there transform.pair_faults (get (codes "scale") j)) (member_faults (codes "translate") transform.pair_faults j) (there_ascends transform.pair_faults pair_ascends (get (codes "scale") j))
    (beyond_under (name (codes "scale")) (name (codes "translate")) (there transform.pair_faults (get (codes "translate") j)) refl) (member_ascends transform.pair_faults pair_ascends (codes "translate") j))
    (limits_ascend (transform.texts_of (codes "scale") j) (transform.texts_of (codes "translate") j))

transform_ascends : (j : Json) → IsAscending (transform_faults j)
transform_ascends j = ascending_under (name (codes "transform")) (if_there transform.faults_of (get (codes "transform") j)) (go (get (codes "transform") j))
  where
    go : (o : Option Json) → IsAscending (if_there transform.faults_of o)
    go None = ascending_none
    go (Some k) = object_ascends (transform.numbers_faults k) (as_object k) (numbers_are k)

-- ---- the root

module _ (rules : TopologyRules) (fixing : FixingRules) (j : Json) where
  both_ascend : (q : Quantization) (js : Items) → IsAscending (content_of q rules fixing j js)
  both_ascend q js =
      let of = chosen_faults (parts_in rules q j js) rules.map fixing (chosen rules) in
      ascending_more (name (codes "arcs")) (arcs_faults q (used_in rules j js) 0 js) (member_faults (codes "objects") of j) (arcs_ascend q (used_in rules j js) 0 js)
      (beyond_under (name (codes "arcs")) (name (codes "objects")) (there of (get (codes "objects") j)) refl) (member_ascends of (chosen_ascend (parts_in rules q j js) rules.map fixing (chosen rules)) (codes "objects") j)

  array_ascends : (q : Quantization) (o : Option Items) → IsAscending (if_array q rules fixing j o)
  array_ascends q None = ascending_under (name (codes "arcs")) (here kind.WrongKind) (ascending_here kind.WrongKind)
  array_ascends q (Some js) = both_ascend q js

  content_ascends : (q : Quantization) (o : Option Json) → IsAscending (arcs_if_there q rules fixing j o)
  content_ascends q None = ascending_under (name (codes "arcs")) (here kind.Missing) (ascending_here kind.Missing)
  content_ascends q (Some a) = array_ascends q (as_array a)

  root_ascends : IsAscending (topology_members_faults rules fixing j)
  root_ascends = ascending_unless (transform_faults j) _ (transform_ascends j) (content_ascends (quantization_of rules.map.grid j) (get (codes "arcs") j))

  pub topology_in_order : (qs : List Pair) → qs ≡ topology_faults rules fixing j → IsAscending qs
  topology_in_order qs is =
      subst IsAscending (sym is) (object_ascends _ (as_object j) (ascending_typed (λ t. topology_members_faults rules fixing j) (named (of_type (codes "Topology")) (type_text j)) (λ t. root_ascends)))
