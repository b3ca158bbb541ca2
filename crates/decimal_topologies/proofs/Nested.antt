-- Geometry objects of collections: their faults, and their shapes.
use Rattle.std.proofs.Common.{◌≡◌, ◌≢◌, ℕ, ◌+◌, ◌<◌, ◌≤◌, length, get_or, drop, Bool, true, false, cond, List, [], ◌∷◌, ◌++◌, Option, Some, None, Result, Ok, Err, option_map, codes, bytes_eq, if◌then◌else◌, inl, inr, refl, sym, ap, ◌∙◌, subst, append_assoc, append-nil}
use Rattle.std.proofs.lemmas.List.{drop_more, drop_all}
use Rattle.std.specs.declared.alloc.Global.{Global}
use Rattle.json.specs.Json.{Json, null, boolean, number, string, array, object, Items, no_items, item, Members, no_members, member}
use Rattle.json.specs.Find.{get, get_member, later_or, as_array}
use Rattle.json.specs.Value.{value_view, items_view}
use Rattle.json.specs.declared.value.Value.{Value}
use Rattle.faults.specs.Path.{index}
use Rattle.faults.specs.declared.fault.FaultKind.{FaultKind}
use Rattle.faults.specs.declared.fault.FaultKind.TheVariants.{WrongKind}
use Rattle.fixing.specs.Forms.{RawShape}
use Rattle.fixing.specs.declared.rules.FixingRules.{FixingRules}
use Rattle.reading.specs.Fault.{here, under}
use Rattle.reading.specs.Parts.{typed_faults}
use Rattle.decimal_faults.specs.Geometries.{later, or_missing}
use Rattle.decimal_faults.specs.Parts.{each_faults, there}
use Rattle.decimal_faults.specs.declared.geometry.GeometryForm.{GeometryForm}
use Rattle.decimal_faults.specs.declared.geometry.GeometryForm.TheVariants.{Simple, Collection}
use Rattle.decimal_faults.proofs.Items.{Values, faulty_item, faulty_later}
use Rattle.decimal_faults.proofs.Nested.{array_is}
use Rattle.decimal_maps.specs.declared.tally.Tally.{Tally}
use Rattle.decimal_topologies.specs.Geometries.{TopologyParts, AreShapes, none, one, nested, HasShapes, IsCollection, content_faults, each_geometry_faults, form_faults, form_of, form_under, geometries_faults, geometries_in, geometry_faults}
use Rattle.decimal_topologies.proofs.Faulty.{by_form, faulty_form, faulty_type}

-- ---- faults

module _ (t : TopologyParts) (fixing : FixingRules) where
  in_is : (ms : Members) → geometries_in t fixing ms ≡ option_map (geometries_faults t fixing) (get_member (codes "geometries") ms)
  unfolding geometries_in
  in_is no_members = refl
  in_is (member k j ms) = ap (λ o. later o (if bytes_eq k (codes "geometries") then Some (geometries_faults t fixing j) else None)) (in_is ms) ∙ go (get_member (codes "geometries") ms) (bytes_eq k (codes "geometries"))
    where
      go : (o : Option Json) (b : Bool) → later (option_map (geometries_faults t fixing) o) (if b then Some (geometries_faults t fixing j) else None) ≡ option_map (geometries_faults t fixing) (later_or o (cond b (Some j) None))
      go None true = refl
      go None false = refl
      go (Some m) b = refl

  within_is : (ms : Members) → or_missing (geometries_in t fixing ms) ≡ there (geometries_faults t fixing) (get_member (codes "geometries") ms)
  within_is ms = ap or_missing (in_is ms) ∙ go (get_member (codes "geometries") ms)
    where
      go : (o : Option Json) → or_missing (option_map (geometries_faults t fixing) o) ≡ there (geometries_faults t fixing) o
      go None = refl
      go (Some j) = refl

  -- by its form
  form_is : (ms : Members) (r : Result (Option GeometryForm) FaultKind) → typed_faults (form_faults t fixing (object ms) (or_missing (geometries_in t fixing ms))) r ≡ typed_faults (content_faults t fixing (object ms)) r
  form_is ms (Err k) = refl
  form_is ms (Ok None) = refl
  form_is ms (Ok (Some (Simple k))) = refl
  form_is ms (Ok (Some Collection)) = ap (λ ps. form_faults t fixing (object ms) ps (Some Collection)) (within_is ms)

  pub geometry_is : (j : Json) → geometry_faults t fixing j ≡ by_form fixing (content_faults t fixing j) j
  unfolding geometry_faults
  geometry_is null = refl
  geometry_is (boolean b) = refl
  geometry_is (number s) = refl
  geometry_is (string s) = refl
  geometry_is (array js) = refl
  geometry_is (object ms) = form_is ms (form_under fixing (object ms))

  pub each_is : (i : ℕ) (js : Items) → each_geometry_faults t fixing i js ≡ each_faults (geometry_faults t fixing) i js
  unfolding each_geometry_faults
  each_is i no_items = refl
  each_is i (item j js) = ap (λ ps. under (index i) (geometry_faults t fixing j) ++ ps) (each_is (i + 1) js)

  pub list_is : (j : Json) (js : Items) → Some js ≡ as_array j → geometries_faults t fixing j ≡ each_geometry_faults t fixing 0 js
  unfolding geometries_faults
  list_is null js e = cc
  list_is (boolean b) js e = cc
  list_is (number s) js e = cc
  list_is (string s) js e = cc
  list_is (array ks) js e = let same : ks ≡ js = cc in ap (each_geometry_faults t fixing 0) same
  list_is (object ms) js e = cc

  pub no_list : (j : Json) → None ≡ as_array j → geometries_faults t fixing j ≡ here WrongKind
  unfolding geometries_faults
  no_list null e = refl
  no_list (boolean b) e = refl
  no_list (number s) e = refl
  no_list (string s) e = refl
  no_list (array js) e = cc
  no_list (object ms) e = refl

pub faulty_list : (t : TopologyParts) (fixing : FixingRules) (j : Json) (js : Items) → Some js ≡ as_array j → each_geometry_faults t fixing 0 js ≢ [] → geometries_faults t fixing j ≢ []
faulty_list t fixing j js is faulty n = faulty (sym (list_is t fixing j js is) ∙ n)

pub no_list_faulty : (t : TopologyParts) (fixing : FixingRules) (j : Json) → None ≡ as_array j → geometries_faults t fixing j ≢ []
no_list_faulty t fixing j other n = let m = sym (no_list t fixing j other) ∙ n in cc

pub faulty_content : (t : TopologyParts) (fixing : FixingRules) (j : Json) (f : Option GeometryForm) → form_of j ≡ Ok f → content_faults t fixing j f ≢ [] → geometry_faults t fixing j ≢ []
faulty_content t fixing j f e faulty n = faulty_form fixing (content_faults t fixing j) j f e faulty (sym (geometry_is t fixing j) ∙ n)

pub faulty_kind : (t : TopologyParts) (fixing : FixingRules) (j : Json) (k : FaultKind) → form_of j ≡ Err k → geometry_faults t fixing j ≢ []
faulty_kind t fixing j k e n = faulty_type fixing (content_faults t fixing j) j k e (sym (geometry_is t fixing j) ∙ n)

-- ---- shapes

pub collection_made : (t : TopologyParts) (j k : Json) (js : Items) (ss : List RawShape) (a b : Tally) → form_of j ≡ Ok (Some Collection) → Some k ≡ get (codes "geometries") j → Some js ≡ as_array k → AreShapes t js ss a b → IsCollection t j ss a b
collection_made t j k js ss a b e there items shapes = record {
  geometries = js;
  has = record { typed = e; there = sym there ∙ ap Some (array_is k js items) };
  shapes = shapes;
}

shapes_more : (t : TopologyParts) (j : Json) (js : Items) (rs ss : List RawShape) (a b c : Tally) → HasShapes t j rs a b → AreShapes t js ss b c → AreShapes t (item j js) (rs ++ ss) a c
shapes_more t j js rs ss a b c (inl (s, is, h)) rest = subst (λ ts. AreShapes t (item j js) (ts ++ ss) a c) (sym is) (one j js s ss a b c h rest)
shapes_more t j js rs ss a b c (inr all) rest = nested j js all.geometries rs ss a b c all.has all.shapes rest

-- the shapes of the geometries before i stand behind those that were found before
pub record Shaped (t : TopologyParts) (vs : Values) (i : ℕ) (before now : List RawShape) (a c : Tally) : Type 0 where
  pub means : (ss : List RawShape) (b : Tally) → AreShapes t (items_view (drop i vs)) ss c b → (ts : List RawShape) × (now ++ ss ≡ before ++ ts) × AreShapes t (items_view vs) ts a b
  pub faulty : (fixing : FixingRules) → each_faults (geometry_faults t fixing) i (items_view (drop i vs)) ≢ [] → each_faults (geometry_faults t fixing) 0 (items_view vs) ≢ []

pub shaped_none : (t : TopologyParts) (vs : Values) (before : List RawShape) (a : Tally) → Shaped t vs 0 before before a a
shaped_none t vs before a = record { means = λ ss b h. (ss, refl, h); faulty = λ fixing h. h }

pub shaped_more : (t : TopologyParts) (vs : Values) (i : ℕ) (v : Value Global) (before now new rs : List RawShape) (a c d : Tally) → i < length vs → v ≡ get_or vs i v → Shaped t vs i before now a c
    → new ≡ now ++ rs → HasShapes t (value_view v) rs c d → Shaped t vs (i + 1) before new a d
shaped_more t vs i v before now new rs a c d less is h put made = record {
  means = λ ss b rest.
      let more = h.means (rs ++ ss) b (subst (λ us. AreShapes t (items_view us) (rs ++ ss) c b) (sym here_is) (shapes_more t (value_view v) (items_view (drop (i + 1) vs)) rs ss c d b made rest)) in
      (more.0, ap (λ ts. ts ++ ss) put ∙ append_assoc now rs ss ∙ more.1, more.2);
  faulty = λ fixing rest. h.faulty fixing (faulty_later (geometry_faults t fixing) vs i v less is rest);
}
  where
    here_is : drop i vs ≡ v ∷ drop (i + 1) vs
    here_is = drop_more vs i v less ∙ ap (λ u. u ∷ drop (i + 1) vs) (sym is)

pub shaped_all : (t : TopologyParts) (vs : Values) (i : ℕ) (before now : List RawShape) (a c : Tally) → length vs ≤ i → Shaped t vs i before now a c
    → (ts : List RawShape) × (now ≡ before ++ ts) × AreShapes t (items_view vs) ts a c
shaped_all t vs i before now a c past h =
    let all = h.means [] c (subst (λ us. AreShapes t (items_view us) [] c c) (sym (drop_all i vs past)) (none c)) in
    (all.0, sym (append-nil now) ∙ all.1, all.2)

pub shaped_not : (t : TopologyParts) (vs : Values) (i : ℕ) (v : Value Global) (before now : List RawShape) (a c : Tally) (fixing : FixingRules) → i < length vs → v ≡ get_or vs i v → Shaped t vs i before now a c
    → geometry_faults t fixing (value_view v) ≢ [] → each_geometry_faults t fixing 0 (items_view vs) ≢ []
shaped_not t vs i v before now a c fixing less is h faulty n =
    h.faulty fixing (faulty_item (geometry_faults t fixing) vs i v less is faulty) (sym (each_is t fixing 0 (items_view vs)) ∙ n)
