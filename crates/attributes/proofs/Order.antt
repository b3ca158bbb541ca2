-- The faults of ids and properties are in order.
use Rattle.std.proofs.Common.{◌≡◌, ℕ, Bool, true, false, not, ◌&&◌, nat_le, List, [], ◌∷◌, ◌++◌, Option, Some, None, codes, Less, refl}
use Rattle.std.specs.Borrow.{Bor}
use Rattle.std.specs.List.Sorted.{IsStrictlySortedBy}
use Rattle.std.specs.Prelude.{if◌then◌else◌, is_some, option_and_then}
use Rattle.json.specs.Json as json
use Rattle.json.specs.Json.{Json}
use Rattle.json.specs.Find.{get}
use Rattle.serde_json.specs.Data.{depth, object}
use Rattle.faults.specs.Fault.{Pair}
use Rattle.faults.specs.Path.{name}
use Rattle.faults.specs.declared.fault.FaultKind.{FaultKind}
use Rattle.faults.specs.declared.fault.FaultKind.TheVariants.{Missing, NotWhole, PropertyDepth, PropertyNumber, WrongKind}
use Rattle.shapes.specs.declared.nesting.TheConstants.{GREATEST_PROPERTY_DEPTH}
use Rattle.reading.specs.Fault.{here, turn_cmp, under}
use Rattle.reading.specs.FaultLists.Ascending.{IsAscending}
use Rattle.reading.proofs.FaultListsLemmas.Ascending.{AreBehind, IsBeyond, ascending_here, ascending_more, ascending_none, ascending_under, beyond_append, beyond_none, beyond_under}
use Rattle.attributes.specs.Attributes.{properties_members}
use Rattle.attributes.specs.Numerals.{signed_of}
use Rattle.attributes.specs.Refusals.{attributes_faults, has_wrong_number, id_faults, members_faults, named_id_faults, own_id_faults, refuses}
use Rattle.attributes.specs.Values.{members_of, members_reals}
use Rattle.attributes.specs.declared.rules.AttributeRules.{AttributeRules}
use Rattle.attributes.specs.declared.rules.Reals.{Reals}

one_if : (b : Bool) (k : FaultKind) → IsAscending (if b then here k else [])
one_if true k = ascending_here k
one_if false k = ascending_none

ascending_id : (is_property : Bool) (rule : Reals) (v : Option Json) → IsAscending (id_faults is_property rule v)
ascending_id q r None = one_if q Missing
ascending_id q r (Some json.null) = one_if q WrongKind
ascending_id q r (Some (json.boolean b)) = ascending_here WrongKind
ascending_id q r (Some (json.number s)) = one_if (refuses r && not (is_some (signed_of r s))) NotWhole
ascending_id q r (Some (json.string s)) = ascending_none
ascending_id q r (Some (json.array js)) = ascending_here WrongKind
ascending_id q r (Some (json.object ms)) = ascending_here WrongKind

-- a fault of a value comes before those of its members
behind_here : (k : FaultKind) (n : List ℕ) (ps : List Pair) → AreBehind (record { path = []; kind = k }) (under (name n) ps)
behind_here k n [] = tt
behind_here k n (p ∷ ps) = (refl, behind_here k n ps)

here_more : (b : Bool) (k : FaultKind) (ps : List Pair) → AreBehind (record { path = []; kind = k }) ps → IsAscending ps → IsAscending ((if b then here k else []) ++ ps)
unfolding IsStrictlySortedBy
here_more true k ps behind a = record { sorted = (behind, a.sorted) }
here_more false k ps behind a = a

depth_behind : (b : Bool) (n : List ℕ) (ps : List Pair) → AreBehind (record { path = []; kind = PropertyNumber }) ((if b then here PropertyDepth else []) ++ under (name n) ps)
depth_behind true n ps = (refl, behind_here PropertyNumber n ps)
depth_behind false n ps = behind_here PropertyNumber n ps

-- both kinds of faults of a value, before those of a member
with_member : (b c : Bool) (n : List ℕ) (ps : List Pair) → IsAscending ps → IsAscending ((if b then here PropertyNumber else []) ++ ((if c then here PropertyDepth else []) ++ under (name n) ps))
with_member b c n ps a =
    here_more b PropertyNumber _ (depth_behind c n ps) (here_more c PropertyDepth _ (behind_here PropertyDepth n ps) (ascending_under (name n) ps a))

ascending_named : (r : AttributeRules) (p : Option Json) (id : Option (Bor (List ℕ))) (o : Option json.Members) → IsAscending (members_faults r p (named_id_faults id r.reals p) o)
ascending_named r p id None = ascending_here WrongKind
ascending_named r p None (Some ms) =
    with_member (has_wrong_number r p (members_reals r.reals r.scales.now ms)) (not (nat_le (depth (object (members_of r.reals r.scales.now ms))) GREATEST_PROPERTY_DEPTH)) [] [] ascending_none
ascending_named r p (Some n) (Some ms) =
    with_member (has_wrong_number r p (members_reals r.reals r.scales.now ms)) (not (nat_le (depth (object (members_of r.reals r.scales.now ms))) GREATEST_PROPERTY_DEPTH)) n.now
    (id_faults true r.reals (option_and_then (get n.now) p)) (ascending_id true r.reals (option_and_then (get n.now) p))

-- the id's faults, and those of properties
own_before : (id : Option (Bor (List ℕ))) (rule : Reals) (i : Option Json) (ps : List Pair) → IsAscending ps → IsAscending (own_id_faults id rule i ++ under (name (codes "properties")) ps)
own_before None rule i ps a =
    ascending_more (name (codes "id")) (id_faults false rule i) (under (name (codes "properties")) ps) (ascending_id false rule i) (beyond_under (name (codes "id")) (name (codes "properties")) ps refl)
    (ascending_under (name (codes "properties")) ps a)
own_before (Some n) rule i ps a = ascending_under (name (codes "properties")) ps a

pub ascending_attributes : (r : AttributeRules) (i p : Option Json) → IsAscending (attributes_faults r i p)
ascending_attributes r i p = own_before r.id r.reals i _ (ascending_named r p r.id (properties_members p))

beyond_own : (n : List ℕ) (id : Option (Bor (List ℕ))) (rule : Reals) (i : Option Json) → turn_cmp (name n) (name (codes "id")) ≡ Less → IsBeyond (name n) (own_id_faults id rule i)
beyond_own n None rule i less = beyond_under (name n) (name (codes "id")) (id_faults false rule i) less
beyond_own n (Some property) rule i less = beyond_none (name n)

-- they come after the faults of a member whose name comes before both
pub beyond_attributes : (n : List ℕ) (r : AttributeRules) (i p : Option Json) → turn_cmp (name n) (name (codes "id")) ≡ Less → turn_cmp (name n) (name (codes "properties")) ≡ Less
    → IsBeyond (name n) (attributes_faults r i p)
beyond_attributes n r i p own properties =
    beyond_append (name n) (own_id_faults r.id r.reals i) _ (beyond_own n r.id r.reals i own) (beyond_under (name n) (name (codes "properties")) _ properties)
