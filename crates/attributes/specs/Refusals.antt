-- What is wrong with ids and properties of a map in decimal numbers.
use Rattle.std.specs.Prelude.{ℕ, Bool, true, false, not, ◌&&◌, ◌||◌, List, [], ◌++◌, codes, nat_lt, Option, Some, None, is_some, option_and_then, if◌then◌else◌}
use Rattle.std.specs.Borrow.{Bor}
use Rattle.json.specs.Json as json
use Rattle.json.specs.Json.{Json}
use Rattle.json.specs.Find.{get}
use Rattle.serde_json.specs.Data.{object}
use Rattle.faults.specs.Fault.{Pair}
use Rattle.faults.specs.Path.{name}
use Rattle.faults.specs.declared.fault.FaultKind.TheVariants.{Missing, WrongKind, NotWhole, PropertyNumber}
use Rattle.reading.specs.Fault.{here, under}
use Rattle.reading.specs.Info.{depth_faults}
use Rattle.attributes.specs.Attributes.{properties_members}
use Rattle.attributes.specs.Numerals.{signed_of}
use Rattle.attributes.specs.Values.{has_beyond, members_of, members_reals}
use Rattle.attributes.specs.declared.rules.AttributeRules.{AttributeRules}
use Rattle.attributes.specs.declared.rules.Reals.{Reals}
use Rattle.attributes.specs.declared.rules.Reals.TheVariants.{Whole, Text, Refuse}

-- numbers are not to become texts
abbrev pub refuses : Reals → Bool
refuses Whole = false
refuses Text = false
refuses Refuse = true

-- an id is a text or a number, of 64 signed bits where numbers are not to become texts; a member `id` may be missing or
-- null, and a property that is the id has to be there [RFC 7946, 3.2; own]
abbrev pub id_faults : Bool → Reals → Option Json → List Pair
id_faults is_property rule None = if is_property then here Missing else []
id_faults is_property rule (Some json.null) = if is_property then here WrongKind else []
id_faults is_property rule (Some (json.boolean b)) = here WrongKind
id_faults is_property rule (Some (json.number s)) = if refuses rule && not (is_some (signed_of rule s)) then here NotWhole else []
id_faults is_property rule (Some (json.string s)) = []
id_faults is_property rule (Some (json.array js)) = here WrongKind
id_faults is_property rule (Some (json.object ms)) = here WrongKind

-- where the member `id` is the id
abbrev pub own_id_faults : Option (Bor (List ℕ)) → Reals → Option Json → List Pair
own_id_faults None rule i = under (name (codes "id")) (id_faults false rule i)
own_id_faults (Some property) rule i = []

-- where a property is the id
abbrev pub named_id_faults : Option (Bor (List ℕ)) → Reals → Option Json → List Pair
named_id_faults None rule p = []
named_id_faults (Some property) rule p = under (name property.now) (id_faults true rule (option_and_then (get property.now) p))

-- a number that is scaled beyond the limit, or, where numbers are not to become texts, one that would
abbrev pub has_wrong_number : AttributeRules → Option Json → ℕ → Bool
has_wrong_number r p reals = has_beyond r.scales.now p || (refuses r.reals && nat_lt 0 reals)

abbrev pub number_faults : AttributeRules → Option Json → ℕ → List Pair
number_faults r p reals = if has_wrong_number r p reals then here PropertyNumber else []

-- properties are an object, missing or null; the faults of their values stand before those of the id among them
-- [RFC 7946, 3.2; own]
abbrev pub members_faults : AttributeRules → Option Json → List Pair → Option json.Members → List Pair
members_faults r p named None = here WrongKind
members_faults r p named (Some ms) =
    number_faults r p (members_reals r.reals r.scales.now ms) ++ (depth_faults (object (members_of r.reals r.scales.now ms)) ++ named)

-- the faults of the members `id` and `properties` of a feature, by their paths from it [RFC 7946, 3.2; own]
abbrev pub attributes_faults : AttributeRules → Option Json → Option Json → List Pair
attributes_faults r i p =
    own_id_faults r.id r.reals i
    ++ under (name (codes "properties")) (members_faults r p (named_id_faults r.id r.reals p) (properties_members p))
