-- Faults of ids and properties, by what the code finds of them.
use Rattle.std.proofs.Common.{◌≡◌, ℕ, zero, suc, ◌+◌, ◌-◌, ◌^◌, ◌<◌, min, Bool, true, false, not, ◌&&◌, ◌||◌, nat_le, nat_lt, lit<, List, [], ◌∷◌, ◌++◌, Option, Some, None, is_some, option_and_then, option_map, unwrap_or, codes, Bor, refl, sym, ap, ◌∙◌, arith, lt-ltb}
use Rattle.std.proofs.lemmas.List.{map-append}
use Rattle.std.specs.Prelude.{if◌then◌else◌}
use Rattle.json.specs.Json as json
use Rattle.json.specs.Find.{get}
use Rattle.json.specs.Json.{Json}
use Rattle.serde_json.specs.Data.{Members, depth, object}
use Rattle.serde_json.specs.Written.{members_have_float}
use Rattle.faults.specs.Fault.{Pair, pair_of}
use Rattle.faults.specs.Path.{Turn, name}
use Rattle.faults.specs.declared.fault.Fault.{Fault}
use Rattle.faults.specs.declared.fault.FaultKind.TheVariants.{PropertyDepth, PropertyNumber}
use Rattle.shapes.specs.PropertyFaults.{property_fault}
use Rattle.shapes.specs.declared.nesting.TheConstants.{GREATEST_PROPERTY_DEPTH}
use Rattle.shapes.specs.declared.props.PropFault.TheVariants as prop
use Rattle.reading.specs.Fault.{here, under}
use Rattle.reading.specs.FaultLists.Found.{pairs_of}
use Rattle.reading.specs.Info.{depth_faults}
use Rattle.attributes.specs.Attributes.{counted, id_source, properties_members}
use Rattle.attributes.specs.Refusals.{attributes_faults, id_faults, members_faults, named_id_faults, number_faults, own_id_faults, refuses}
use Rattle.attributes.specs.Values.{has_beyond, members_of, members_reals}
use Rattle.attributes.specs.declared.rules.AttributeRules.{AttributeRules}
use Rattle.attributes.specs.declared.rules.Reals.{Reals}
use Rattle.attributes.proofs.Whole.{no_float_among}

none_before : (xs ys : List Pair) → xs ++ ys ≡ [] → xs ≡ []
none_before [] ys e = refl
none_before (x ∷ xs) ys e = absurd (cc)

none_behind : (xs ys : List Pair) → xs ++ ys ≡ [] → ys ≡ []
none_behind [] ys e = e
none_behind (x ∷ xs) ys e = absurd (cc)

none_under : (t : Turn) (ps : List Pair) → under t ps ≡ [] → ps ≡ []
none_under t [] e = refl
none_under t (p ∷ ps) e = absurd (cc)

depth_at : (b : Bool) → (if not b then here PropertyDepth else []) ≡ [] → (if not b then Some prop.PropertyDepth else None) ≡ None
depth_at true e = refl
depth_at false e = absurd (cc)

depth_none : (ms : Members) → members_have_float ms ≡ false → depth_faults (object ms) ≡ [] → property_fault (object ms) ≡ None
depth_none ms whole e =
    ap (λ b. if b then Some prop.PropertyNumber else (if not (nat_le (depth (object ms)) GREATEST_PROPERTY_DEPTH) then Some prop.PropertyDepth else None)) whole
    ∙ depth_at (nat_le (depth (object ms)) GREATEST_PROPERTY_DEPTH) e

-- what `Props::from_value` refuses has a fault
pub refused : (r : AttributeRules) (p : Option Json) (o : Option json.Members) (made : Members) (named : List Pair)
    → Some made ≡ option_map (members_of r.reals r.scales.now) o → (property_fault (object made) ≡ None → ⊥) → members_faults r p named o ≡ [] → ⊥
refused r p None made named is fault e = cc
refused r p (Some ms) made named is fault e =
    let same : made ≡ members_of r.reals r.scales.now ms = cc in
    let behind = none_behind (number_faults r p (members_reals r.reals r.scales.now ms)) (depth_faults (object (members_of r.reals r.scales.now ms)) ++ named) e in
    let shallow = none_before (depth_faults (object (members_of r.reals r.scales.now ms))) named behind in
    fault (ap (λ m. property_fault (object m)) same ∙ depth_none (members_of r.reals r.scales.now ms) (no_float_among r.reals r.scales.now ms) shallow)

-- faults of properties are faults of the feature
pub none_of_properties : (r : AttributeRules) (i p : Option Json) → attributes_faults r i p ≡ [] → members_faults r p (named_id_faults r.id r.reals p) (properties_members p) ≡ []
none_of_properties r i p e =
    let within = members_faults r p (named_id_faults r.id r.reals p) (properties_members p) in
    none_under (name (codes "properties")) within (none_behind (own_id_faults r.id r.reals i) (under (name (codes "properties")) within) e)

-- where the id has no faults, the lists of its faults are empty
id_has_none : (o : Option (Bor (List ℕ))) (rule : Reals) (i p : Option Json) → id_faults (is_some o) rule (id_source o i p) ≡ []
    → (own_id_faults o rule i ≡ []) × (named_id_faults o rule p ≡ [])
id_has_none None rule i p e = (ap (under (name (codes "id"))) e, refl)
id_has_none (Some property) rule i p e = (refl, ap (under (name property.now)) e)

-- a feature has no faults where its id and its properties have none
pub none_of_either : (r : AttributeRules) (i p : Option Json) → id_faults (is_some r.id) r.reals (id_source r.id i p) ≡ []
    → ((named : List Pair) → members_faults r p named (properties_members p) ≡ named) → attributes_faults r i p ≡ []
none_of_either r i p id members =
    let parts = id_has_none r.id r.reals i p id in
    let named = named_id_faults r.id r.reals p in
    ap (λ own. own ++ under (name (codes "properties")) (members_faults r p named (properties_members p))) parts.0 ∙ ap (under (name (codes "properties"))) (members named ∙ parts.1)

none_of_named : (r : AttributeRules) (p : Option Json) (named : List Pair) (o : Option json.Members) → members_faults r p named o ≡ [] → named ≡ []
none_of_named r p named None e = absurd (cc)
none_of_named r p named (Some ms) e =
    none_behind (depth_faults (object (members_of r.reals r.scales.now ms))) named
    (none_behind (number_faults r p (members_reals r.reals r.scales.now ms)) (depth_faults (object (members_of r.reals r.scales.now ms)) ++ named) e)

id_none_at : (o : Option (Bor (List ℕ))) (rule : Reals) (i p : Option Json) → own_id_faults o rule i ≡ [] → named_id_faults o rule p ≡ []
    → id_faults (is_some o) rule (id_source o i p) ≡ []
id_none_at None rule i p own named = none_under (name (codes "id")) (id_faults false rule i) own
id_none_at (Some property) rule i p own named = none_under (name property.now) (id_faults true rule (option_and_then (get property.now) p)) named

-- faults of the id are faults of the feature
pub none_of_id : (r : AttributeRules) (i p : Option Json) → attributes_faults r i p ≡ [] → id_faults (is_some r.id) r.reals (id_source r.id i p) ≡ []
none_of_id r i p e =
    let within = members_faults r p (named_id_faults r.id r.reals p) (properties_members p) in
    id_none_at r.id r.reals i p (none_before (own_id_faults r.id r.reals i) (under (name (codes "properties")) within) e)
    (none_of_named r p (named_id_faults r.id r.reals p) (properties_members p) (none_of_properties r i p e))

positive_at : (most a b : ℕ) → 0 < most → min a most ≡ min (0 + b) most → nat_lt 0 a ≡ nat_lt 0 b
positive_at most zero zero some e = refl
positive_at most zero (suc b) some e = absurd (omega arith)
positive_at most (suc a) zero some e = absurd (omega arith)
positive_at most (suc a) (suc b) some e = lt-ltb 0 (suc a) (omega arith) ∙ sym (lt-ltb 0 (suc b) (omega arith))

-- a count that stays at its greatest is 0 where the count is
positive : (a b : ℕ) → counted a ≡ counted (0 + b) → nat_lt 0 a ≡ nat_lt 0 b
positive a b e = positive_at (2 ^ 64 - 1) a b (lit< tt) e

-- the faults that the code lists are those of the properties
pub judged : (r : AttributeRules) (p : Option Json) (o : Option json.Members) (made : Members) (reals : ℕ) (number deep named behind fs : List Fault)
    → Some made ≡ option_map (members_of r.reals r.scales.now) o → counted reals ≡ counted (0 + members_reals r.reals r.scales.now (unwrap_or o json.no_members))
    → pairs_of number ≡ number_faults r p reals → pairs_of deep ≡ depth_faults (object made) → behind ≡ deep ++ named → fs ≡ number ++ behind
    → pairs_of fs ≡ members_faults r p (pairs_of named) o
judged r p None made reals number deep named behind fs is count numbers depths joined whole = absurd (cc)
judged r p (Some ms) made reals number deep named behind fs is count numbers depths joined whole =
    let same : made ≡ members_of r.reals r.scales.now ms = cc in
    let some = positive reals (members_reals r.reals r.scales.now ms) count in
    ap pairs_of whole ∙ map-append pair_of number behind ∙ ap (λ xs. pairs_of number ++ pairs_of xs) joined ∙ ap (λ xs. pairs_of number ++ xs) (map-append pair_of deep named)
    ∙ ap (λ xs. xs ++ (pairs_of deep ++ pairs_of named)) (numbers ∙ ap (λ b. if has_beyond r.scales.now p || (refuses r.reals && b) then here PropertyNumber else []) some)
    ∙ ap (λ xs. number_faults r p (members_reals r.reals r.scales.now ms) ++ (xs ++ pairs_of named)) (depths ∙ ap (λ m. depth_faults (object m)) same)

total_at : (most a b m n : ℕ) → min b most ≡ min (0 + m) most → a ≡ min (b + n) most → a ≡ min (m + n) most
total_at most a b m n e f = omega arith

-- one count behind another
pub total : (a b m n : ℕ) → counted b ≡ counted (0 + m) → a ≡ counted (b + n) → a ≡ counted (m + n)
total a b m n e f = total_at (2 ^ 64 - 1) a b m n e f
