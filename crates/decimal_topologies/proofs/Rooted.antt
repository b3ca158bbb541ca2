-- Topologies that have faults.
use Rattle.std.proofs.Common.{◌≡◌, ◌≢◌, ℕ, Bool, true, false, length, List, [], ◌∷◌, ◌++◌, Some, None, Result, Ok, Err, bytes_eq, codes, is_some, if◌then◌else◌, refl, sym, ap, ap₂, ◌∙◌, arith}
use Rattle.std.proofs.lemmas.List.{map-append}
use Rattle.std.proofs.lemmas.Slice.Eq.{bytes_eq-Decides}
use Rattle.std.specs.declared.alloc.Global.{Global}
use Rattle.json.specs.Json.{Json, null, boolean, number, string, array, object, Items}
use Rattle.json.specs.Find.{as_array, as_object, get}
use Rattle.json.specs.Value.{items_view}
use Rattle.json.specs.declared.value.Value.{Value}
use Rattle.faults.specs.Path.{name}
use Rattle.faults.specs.Fault.{Pair, pair_of}
use Rattle.faults.specs.declared.fault.Fault.{Fault}
use Rattle.faults.specs.declared.fault.FaultKind.{FaultKind}
use Rattle.faults.specs.declared.fault.FaultKind.TheVariants.{UnknownType}
use Rattle.fixing.specs.declared.rules.FixingRules.{FixingRules}
use Rattle.reading.specs.Fault.{under, unless_faulty}
use Rattle.reading.specs.FaultLists.Found.{pairs_of}
use Rattle.reading.specs.Parts.{named, of_type}
use Rattle.reading.proofs.Faultless.{first_none, second_none, under_none, unless_none}
use Rattle.decimal_faults.specs.Parts.{member_faults, type_text}
use Rattle.decimal_arcs.specs.Arcs.{arcs_faults, arcs_of}
use Rattle.decimal_topologies.specs.Layers.{chosen_faults}
use Rattle.decimal_arcs.specs.Places.{count_of}
use Rattle.decimal_topologies.specs.Roots.{chosen, content_faults, content_of, if_array, if_there, parts_in, topology_faults, topology_members_faults, used_in}
use Rattle.decimal_arcs.specs.Seen.{Arcs}
use Rattle.decimal_arcs.specs.Transforms.{quantization_of, transform_faults}
use Rattle.decimal_arcs.specs.declared.place.Quantization.{Quantization}
use Rattle.decimal_topologies.specs.declared.rules.TopologyRules.{TopologyRules}

pub count_is : (vs : List (Value Global)) → length vs ≡ count_of (items_view vs)
count_is [] = refl
count_is (v ∷ vs) = omega (arith, count_is vs)

-- ---- types

abbrev pub root_type : Json → Result Unit FaultKind
root_type j = named (of_type (codes "Topology")) (type_text j)

pub typed_object : (j : Json) (u : Unit {0}) → root_type j ≡ Ok u → is_some (as_object j) ≡ true
typed_object null u e = cc
typed_object (boolean b) u e = cc
typed_object (number s) u e = cc
typed_object (string s) u e = cc
typed_object (array js) u e = cc
typed_object (object ms) u e = refl

pub text_is : (j : Json) (u : Unit {0}) → root_type j ≡ Ok u → type_text j ≡ Ok (codes "Topology")
text_is j u e = go (type_text j) refl e
  where
    same : (s : List ℕ) (b : Bool) → bytes_eq s (codes "Topology") ≡ b → (if b then Ok tt else Err UnknownType) ≡ Ok u → s ≡ codes "Topology"
    same s true is e = (bytes_eq-Decides s (codes "Topology")).0 is
    same s false is e = cc

    go : (r : Result (List ℕ) FaultKind) → type_text j ≡ r → named (of_type (codes "Topology")) r ≡ Ok u → type_text j ≡ Ok (codes "Topology")
    go (Err k) is e = cc
    go (Ok s) is e = is ∙ ap Ok (same s (bytes_eq s (codes "Topology")) refl e)

module _ (rules : TopologyRules) (fixing : FixingRules) (j : Json) where
  -- ---- members

  pub faulty_transform : transform_faults j ≢ [] → topology_members_faults rules fixing j ≢ []
  faulty_transform faulty n = faulty (unless_none (transform_faults j) _ n)

  pub faulty_content : transform_faults j ≡ [] → content_faults (quantization_of rules.map.grid j) rules fixing j ≢ [] → topology_members_faults rules fixing j ≢ []
  faulty_content none faulty n = faulty (sym (ap (λ ps. unless_faulty ps (content_faults (quantization_of rules.map.grid j) rules fixing j)) none) ∙ n)

  pub no_arcs : (q : Quantization) → None ≡ get (codes "arcs") j → content_faults q rules fixing j ≢ []
  no_arcs q is n = let m = ap (if_there q rules fixing j) is ∙ n in cc

  pub no_array : (q : Quantization) (a : Json) → Some a ≡ get (codes "arcs") j → None ≡ as_array a → content_faults q rules fixing j ≢ []
  no_array q a is other n = let m = ap (if_array q rules fixing j) other ∙ (ap (if_there q rules fixing j) is ∙ n) in cc

  pub faulty_array : (q : Quantization) (a : Json) (js : Items) → Some a ≡ get (codes "arcs") j → Some js ≡ as_array a → content_of q rules fixing j js ≢ [] → content_faults q rules fixing j ≢ []
  faulty_array q a js is some faulty n = faulty (ap (if_array q rules fixing j) some ∙ (ap (if_there q rules fixing j) is ∙ n))

  pub faulty_arcs : (q : Quantization) (js : Items) → arcs_faults q (used_in rules j js) 0 js ≢ [] → content_of q rules fixing j js ≢ []
  faulty_arcs q js faulty n =
      faulty (under_none (name (codes "arcs")) (arcs_faults q (used_in rules j js) 0 js) (first_none (under (name (codes "arcs")) (arcs_faults q (used_in rules j js) 0 js)) (member_faults (codes "objects") (chosen_faults (parts_in rules q j js) rules.map fixing (chosen rules)) j) n))

  pub faulty_objects : (q : Quantization) (js : Items) → member_faults (codes "objects") (chosen_faults (parts_in rules q j js) rules.map fixing (chosen rules)) j ≢ [] → content_of q rules fixing j js ≢ []
  faulty_objects q js faulty n = faulty (second_none (under (name (codes "arcs")) (arcs_faults q (used_in rules j js) 0 js)) (member_faults (codes "objects") (chosen_faults (parts_in rules q j js) rules.map fixing (chosen rules)) j) n)

  -- the faults of both parts, by the arcs that are used
  pub both_judged : (q : Quantization) (js : Items) (used : List Bool) (arcs : Arcs) (table : List Pair) (first others found : List Fault) → used ≡ used_in rules j js → table ≡ arcs_faults q used 0 js → arcs ≡ arcs_of q used js
      → pairs_of first ≡ under (name (codes "arcs")) table → pairs_of others ≡ member_faults (codes "objects") (chosen_faults (record { quantization = q; arcs = arcs }) rules.map fixing (chosen rules)) j → found ≡ first ++ others → pairs_of found ≡ content_of q rules fixing j js
  both_judged q js used arcs table first others found by judged read put objects is =
      ap pairs_of is ∙ map-append pair_of first others
      ∙ ap₂ (λ ps qs. ps ++ qs) (put ∙ ap (under (name (codes "arcs"))) (judged ∙ ap (λ u. arcs_faults q u 0 js) by))
      (objects ∙ ap (λ table. member_faults (codes "objects") (chosen_faults (record { quantization = q; arcs = table }) rules.map fixing (chosen rules)) j) (read ∙ ap (λ u. arcs_of q u js) by))
