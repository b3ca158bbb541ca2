-- Geometries of collections: their faults, their shapes, and how deep they nest.
use Rattle.std.proofs.Common.{◌≡◌, ◌≢◌, ℕ, zero, suc, ◌+◌, ◌<◌, ◌≤◌, length, get_or, drop, Bool, true, false, cond, List, [], ◌∷◌, ◌++◌, Option, Some, None, Result, Ok, Err, option_map, is_some, codes, bytes_eq, if◌then◌else◌, ◌⊎◌, inl, inr, refl, sym, ap, ◌∙◌, subst, arith, append_assoc, append-nil}
use Rattle.std.proofs.lemmas.List.{drop_more, drop_all}
use Rattle.std.specs.declared.alloc.Global.{Global}
use Rattle.json.specs.Json.{Json, null, boolean, number, string, array, object, Items, no_items, item, Members, no_members, member}
use Rattle.json.specs.Find.{get, get_member, later_or, as_array, as_object, as_str}
use Rattle.json.specs.Tree.{depth, items_depth, members_depth}
use Rattle.json.specs.Value.{value_view, items_view}
use Rattle.json.specs.declared.value.Value.{Value}
use Rattle.faults.specs.Path.{name, index}
use Rattle.faults.specs.declared.fault.FaultKind.{FaultKind}
use Rattle.faults.specs.declared.fault.FaultKind.TheVariants.{WrongKind, UnknownType}
use Rattle.fixing.specs.Forms.{RawShape}
use Rattle.fixing.specs.declared.rules.FixingRules.{FixingRules}
use Rattle.reading.specs.Fault.{here, under}
use Rattle.reading.specs.Parts.{named, text_or_fault, typed_faults}
use Rattle.reading.specs.Types.{geometry_named}
use Rattle.reading.specs.declared.geometry.GeometryType.{GeometryType}
use Rattle.decimal_maps.specs.Geometries.{AreShapes, none, simple, nested, IsCollection, IsSimple, kind_name}
use Rattle.decimal_maps.specs.declared.rules.DecimalGrid.{DecimalGrid}
use Rattle.decimal_maps.specs.declared.tally.Tally.{Tally}
use Rattle.decimal_maps.proofs.Naming.{name_is, pick}
use Rattle.decimal_faults.specs.Collections.{HasShapes}
use Rattle.decimal_faults.specs.Geometries as geometries
use Rattle.decimal_faults.specs.Geometries.{coordinates_faults, form_named, form_of, form_faults, later, or_missing, geometry_faults, geometries_faults, each_geometry_faults, geometries_in}
use Rattle.decimal_faults.specs.Parts.{each_faults, member_faults, there, type_text, type_or_fault}
use Rattle.decimal_faults.specs.Shapes.{IsShapeOf}
use Rattle.decimal_faults.specs.declared.geometry.GeometryForm.{GeometryForm}
use Rattle.decimal_faults.specs.declared.geometry.GeometryForm.TheVariants.{Simple, Collection}
use Rattle.decimal_faults.proofs.Items.{Values, faulty_item, faulty_later}

-- ---- how deep values nest

latest : (o : Option Json) (b : Bool) (i k : Json) → Some k ≡ later_or o (cond b (Some i) None) → (Some k ≡ o) ⊎ (k ≡ i)
latest None true i k e = inr cc
latest None false i k e = cc
latest (Some m) b i k e = inl e

member_depth : (n : List ℕ) (ms : Members) (k : Json) → Some k ≡ get_member n ms → depth k ≤ members_depth ms
member_depth n no_members k e = cc
member_depth n (member m i ms) k e =
    elim (latest (get_member n ms) (bytes_eq m n) i k e) [
      | inl rest ↦ omega (arith, member_depth n ms k rest)
      | inr is ↦ omega (arith, ap depth is)
    ]

pub get_depth : (n : List ℕ) (j k : Json) → Some k ≡ get n j → depth k < depth j
get_depth n null k e = cc
get_depth n (boolean b) k e = cc
get_depth n (number s) k e = cc
get_depth n (string s) k e = cc
get_depth n (array js) k e = cc
get_depth n (object ms) k e = omega (arith, member_depth n ms k e)

pub array_is : (j : Json) (js : Items) → Some js ≡ as_array j → j ≡ array js
array_is null js e = cc
array_is (boolean b) js e = cc
array_is (number s) js e = cc
array_is (string s) js e = cc
array_is (array ks) js e = let same : ks ≡ js = cc in ap array same
array_is (object ms) js e = cc

pub array_depth : (j : Json) (js : Items) → Some js ≡ as_array j → items_depth js < depth j
array_depth j js e = omega (arith, ap depth (array_is j js e))

pub item_depth : (vs : Values) (i : ℕ) (v : Value Global) → i < length vs → v ≡ get_or vs i v → depth (value_view v) ≤ items_depth (items_view vs)
item_depth [] i v less is = absurd (omega arith)
item_depth (w ∷ vs) zero v less is = omega (arith, ap (λ u. depth (value_view u)) is)
item_depth (w ∷ vs) (suc i) v less is = omega (arith, item_depth vs i v (omega arith) is)

-- ---- faults

module _ (grid : DecimalGrid) (fixing : FixingRules) where
  in_is : (ms : Members) → geometries_in grid fixing ms ≡ option_map (geometries_faults grid fixing) (get_member (codes "geometries") ms)
  unfolding geometries_in
  in_is no_members = refl
  in_is (member k j ms) = ap (λ o. later o (if bytes_eq k (codes "geometries") then Some (geometries_faults grid fixing j) else None)) (in_is ms) ∙ go (get_member (codes "geometries") ms) (bytes_eq k (codes "geometries"))
    where
      go : (o : Option Json) (b : Bool) → later (option_map (geometries_faults grid fixing) o) (if b then Some (geometries_faults grid fixing j) else None) ≡ option_map (geometries_faults grid fixing) (later_or o (cond b (Some j) None))
      go None true = refl
      go None false = refl
      go (Some m) b = refl

  within_is : (ms : Members) → or_missing (geometries_in grid fixing ms) ≡ there (geometries_faults grid fixing) (get_member (codes "geometries") ms)
  within_is ms = ap or_missing (in_is ms) ∙ go (get_member (codes "geometries") ms)
    where
      go : (o : Option Json) → or_missing (option_map (geometries_faults grid fixing) o) ≡ there (geometries_faults grid fixing) o
      go None = refl
      go (Some j) = refl

  -- a geometry whose type is known
  pub typed_is : (j : Json) (f : GeometryForm) → form_of j ≡ Ok f → geometry_faults grid fixing j ≡ form_faults grid fixing j (there (geometries_faults grid fixing) (get (codes "geometries") j)) f
  unfolding geometry_faults
  typed_is null f e = cc
  typed_is (boolean b) f e = cc
  typed_is (number s) f e = cc
  typed_is (string s) f e = cc
  typed_is (array js) f e = cc
  typed_is (object ms) f e =
      ap (typed_faults (form_faults grid fixing (object ms) (or_missing (geometries_in grid fixing ms)))) e
      ∙ ap (λ ps. form_faults grid fixing (object ms) ps f) (within_is ms)

  pub untyped_is : (j : Json) (k : FaultKind) → is_some (as_object j) ≡ true → form_of j ≡ Err k → geometry_faults grid fixing j ≡ under (name (codes "type")) (here k)
  unfolding geometry_faults
  untyped_is null k some e = cc
  untyped_is (boolean b) k some e = cc
  untyped_is (number s) k some e = cc
  untyped_is (string s) k some e = cc
  untyped_is (array js) k some e = cc
  untyped_is (object ms) k some e = ap (typed_faults (form_faults grid fixing (object ms) (or_missing (geometries_in grid fixing ms)))) e

  pub no_object : (j : Json) → is_some (as_object j) ≡ false → geometry_faults grid fixing j ≡ here WrongKind
  unfolding geometry_faults
  no_object null e = refl
  no_object (boolean b) e = refl
  no_object (number s) e = refl
  no_object (string s) e = refl
  no_object (array js) e = refl
  no_object (object ms) e = cc

  pub simple_is : (j : Json) (k : GeometryType) → form_of j ≡ Ok (Simple k) → geometry_faults grid fixing j ≡ member_faults (codes "coordinates") (coordinates_faults grid fixing k) j
  simple_is j k e = typed_is j (Simple k) e

  pub split_is : (j : Json) → fixing.splits_collections ≡ true → form_of j ≡ Ok Collection → geometry_faults grid fixing j ≡ member_faults (codes "geometries") (geometries_faults grid fixing) j
  split_is j splits e = typed_is j Collection e ∙ rw splits refl

  pub whole_is : (j : Json) → fixing.splits_collections ≡ false → form_of j ≡ Ok Collection → geometry_faults grid fixing j ≡ under (name (codes "type")) (here UnknownType)
  whole_is j stays e = typed_is j Collection e ∙ rw stays refl

  pub each_is : (i : ℕ) (js : Items) → each_geometry_faults grid fixing i js ≡ each_faults (geometry_faults grid fixing) i js
  unfolding each_geometry_faults
  each_is i no_items = refl
  each_is i (item j js) = ap (λ ps. under (index i) (geometry_faults grid fixing j) ++ ps) (each_is (i + 1) js)

  pub list_is : (j : Json) (js : Items) → Some js ≡ as_array j → geometries_faults grid fixing j ≡ each_geometry_faults grid fixing 0 js
  unfolding geometries_faults
  list_is null js e = cc
  list_is (boolean b) js e = cc
  list_is (number s) js e = cc
  list_is (string s) js e = cc
  list_is (array ks) js e = let same : ks ≡ js = cc in ap (each_geometry_faults grid fixing 0) same
  list_is (object ms) js e = cc

  pub no_list : (j : Json) → None ≡ as_array j → geometries_faults grid fixing j ≡ here WrongKind
  unfolding geometries_faults
  no_list null e = refl
  no_list (boolean b) e = refl
  no_list (number s) e = refl
  no_list (string s) e = refl
  no_list (array js) e = cc
  no_list (object ms) e = refl

  -- ---- faulty

  pub faulty_type : (j : Json) (k : FaultKind) → form_of j ≡ Err k → geometry_faults grid fixing j ≢ []
  faulty_type j k e = go (is_some (as_object j)) refl
    where
      go : (b : Bool) → is_some (as_object j) ≡ b → geometry_faults grid fixing j ≢ []
      go true some = λ n. let m = sym (untyped_is j k some e) ∙ n in cc
      go false other = λ n. let m = sym (no_object j other) ∙ n in cc

  pub faulty_simple : (j : Json) (k : GeometryType) → form_of j ≡ Ok (Simple k) → member_faults (codes "coordinates") (coordinates_faults grid fixing k) j ≢ [] → geometry_faults grid fixing j ≢ []
  faulty_simple j k e faulty n = faulty (sym (simple_is j k e) ∙ n)

  pub faulty_collection : (j : Json) → form_of j ≡ Ok Collection → member_faults (codes "geometries") (geometries_faults grid fixing) j ≢ [] → geometry_faults grid fixing j ≢ []
  faulty_collection j e faulty = go fixing.splits_collections refl
    where
      go : (b : Bool) → fixing.splits_collections ≡ b → geometry_faults grid fixing j ≢ []
      go true splits = λ n. faulty (sym (split_is j splits e) ∙ n)
      go false stays = λ n. let m = sym (whole_is j stays e) ∙ n in cc

pub faulty_list : (grid : DecimalGrid) (fixing : FixingRules) (j : Json) (js : Items) → Some js ≡ as_array j → each_geometry_faults grid fixing 0 js ≢ [] → geometries_faults grid fixing j ≢ []
faulty_list grid fixing j js is faulty n = faulty (sym (list_is grid fixing j js is) ∙ n)

pub no_list_faulty : (grid : DecimalGrid) (fixing : FixingRules) (j : Json) → None ≡ as_array j → geometries_faults grid fixing j ≢ []
no_list_faulty grid fixing j other n = let m = sym (no_list grid fixing j other) ∙ n in cc

-- ---- types

abbrev form_name : GeometryForm → List ℕ
form_name (Simple k) = kind_name k
form_name Collection = codes "GeometryCollection"

simple_name : (s : List ℕ) (r : Result GeometryType FaultKind) (f : GeometryForm) → ((k : GeometryType) → r ≡ Ok k → s ≡ kind_name k) → geometries.simple r ≡ Ok f → s ≡ form_name f
simple_name s (Err k) f is e = cc
simple_name s (Ok k) f is e = let same : Simple k ≡ f = cc in subst (λ g. s ≡ form_name g) same (is k refl)

text_is : (s : List ℕ) (f : GeometryForm) → form_named s ≡ Ok f → s ≡ form_name f
text_is s f = pick (λ g. s ≡ form_name g) s (codes "GeometryCollection") Collection f _ (λ e. e) (simple_name s (geometry_named s) f (name_is s))

string_is : (j : Json) (s : List ℕ) → as_str j ≡ Some s → j ≡ string s
string_is null s e = cc
string_is (boolean b) s e = cc
string_is (number t) s e = cc
string_is (string t) s e = let same : t ≡ s = cc in ap string same
string_is (array js) s e = cc
string_is (object ms) s e = cc

-- the member `type` of a text
pub type_is : (j : Json) (s : List ℕ) → type_text j ≡ Ok s → get (codes "type") j ≡ Some (string s)
type_is j s e = go (get (codes "type") j) e
  where
    inner : (k : Json) (o : Option (List ℕ)) → as_str k ≡ o → text_or_fault o ≡ Ok s → k ≡ string s
    inner k None is e = cc
    inner k (Some t) is e = let same : t ≡ s = cc in string_is k s (is ∙ ap Some same)

    go : (o : Option Json) → type_or_fault o ≡ Ok s → o ≡ Some (string s)
    go None e = cc
    go (Some k) e = ap Some (inner k (as_str k) refl e)

form_type : (j : Json) (f : GeometryForm) → form_of j ≡ Ok f → get (codes "type") j ≡ Some (string (form_name f))
form_type j f e = go (type_text j) refl e
  where
    go : (r : Result (List ℕ) FaultKind) → type_text j ≡ r → named form_named r ≡ Ok f → get (codes "type") j ≡ Some (string (form_name f))
    go (Err k) is e = cc
    go (Ok s) is e = type_is j s is ∙ ap (λ t. Some (string t)) (text_is s f e)

-- ---- shapes

pub simple_made : (grid : DecimalGrid) (j k : Json) (kind : GeometryType) (s : RawShape) (a b : Tally) → form_of j ≡ Ok (Simple kind) → get (codes "coordinates") j ≡ Some k → IsShapeOf grid kind k s a b → IsSimple grid j s a b
simple_made grid j k kind s a b e there h = record {
  kind = form_type j (Simple kind) e ∙ ap (λ l. Some (string (kind_name l))) (sym h.0);
  coordinates = k;
  member = there;
  shape = h.1;
}

pub collection_made : (grid : DecimalGrid) (j k : Json) (js : Items) (ss : List RawShape) (a b : Tally) → form_of j ≡ Ok Collection → Some k ≡ get (codes "geometries") j → Some js ≡ as_array k → AreShapes grid js ss a b → IsCollection grid j ss a b
collection_made grid j k js ss a b e there items shapes = record {
  geometries = js;
  has = record { kind = form_type j Collection e; member = sym there ∙ ap Some (array_is k js items) };
  shapes = shapes;
}

shapes_more : (grid : DecimalGrid) (j : Json) (js : Items) (rs ss : List RawShape) (a b c : Tally) → HasShapes grid j rs a b → AreShapes grid js ss b c → AreShapes grid (item j js) (rs ++ ss) a c
shapes_more grid j js rs ss a b c (inl (s, is, one)) rest = subst (λ ts. AreShapes grid (item j js) (ts ++ ss) a c) (sym is) (simple j js s ss a b c one rest)
shapes_more grid j js rs ss a b c (inr all) rest = nested j js all.geometries rs ss a b c all.has all.shapes rest

-- the shapes of the geometries before i stand behind those that were found before
pub record Shaped (grid : DecimalGrid) (vs : Values) (i : ℕ) (before now : List RawShape) (a c : Tally) : Type 0 where
  pub means : (ss : List RawShape) (b : Tally) → AreShapes grid (items_view (drop i vs)) ss c b → (ts : List RawShape) × (now ++ ss ≡ before ++ ts) × AreShapes grid (items_view vs) ts a b
  pub faulty : (fixing : FixingRules) → each_faults (geometry_faults grid fixing) i (items_view (drop i vs)) ≢ [] → each_faults (geometry_faults grid fixing) 0 (items_view vs) ≢ []

pub shaped_none : (grid : DecimalGrid) (vs : Values) (before : List RawShape) (a : Tally) → Shaped grid vs 0 before before a a
shaped_none grid vs before a = record { means = λ ss b h. (ss, refl, h); faulty = λ fixing h. h }

pub shaped_more : (grid : DecimalGrid) (vs : Values) (i : ℕ) (v : Value Global) (before now new rs : List RawShape) (a c d : Tally) → i < length vs → v ≡ get_or vs i v → Shaped grid vs i before now a c
    → new ≡ now ++ rs → HasShapes grid (value_view v) rs c d → Shaped grid vs (i + 1) before new a d
shaped_more grid vs i v before now new rs a c d less is h put one = record {
  means = λ ss b rest.
      let more = h.means (rs ++ ss) b (subst (λ us. AreShapes grid (items_view us) (rs ++ ss) c b) (sym here_is) (shapes_more grid (value_view v) (items_view (drop (i + 1) vs)) rs ss c d b one rest)) in
      (more.0, ap (λ ts. ts ++ ss) put ∙ append_assoc now rs ss ∙ more.1, more.2);
  faulty = λ fixing rest. h.faulty fixing (faulty_later (geometry_faults grid fixing) vs i v less is rest);
}
  where
    here_is : drop i vs ≡ v ∷ drop (i + 1) vs
    here_is = drop_more vs i v less ∙ ap (λ u. u ∷ drop (i + 1) vs) (sym is)

pub shaped_all : (grid : DecimalGrid) (vs : Values) (i : ℕ) (before now : List RawShape) (a c : Tally) → length vs ≤ i → Shaped grid vs i before now a c
    → (ts : List RawShape) × (now ≡ before ++ ts) × AreShapes grid (items_view vs) ts a c
shaped_all grid vs i before now a c past h =
    let all = h.means [] c (subst (λ us. AreShapes grid (items_view us) [] c c) (sym (drop_all i vs past)) (none c)) in
    (all.0, sym (append-nil now) ∙ all.1, all.2)

pub shaped_not : (grid : DecimalGrid) (vs : Values) (i : ℕ) (v : Value Global) (before now : List RawShape) (a c : Tally) (fixing : FixingRules) → i < length vs → v ≡ get_or vs i v → Shaped grid vs i before now a c
    → geometry_faults grid fixing (value_view v) ≢ [] → each_geometry_faults grid fixing 0 (items_view vs) ≢ []
shaped_not grid vs i v before now a c fixing less is h one n =
    h.faulty fixing (faulty_item (geometry_faults grid fixing) vs i v less is one) (sym (each_is grid fixing 0 (items_view vs)) ∙ n)
