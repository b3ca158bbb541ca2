-- Ids and properties of a map in decimal numbers.
use Rattle.std.specs.Prelude.{◌≡◌, ℕ, ℤ, ◌+◌, ◌-◌, ◌^◌, min, List, not, is_some, Option, Some, None, option_map, option_and_then, unwrap_or}
use Rattle.std.specs.Borrow.{Bor}
use Rattle.std.specs.declared.alloc.Global.{Global}
use Rattle.json.specs.Json as json
use Rattle.json.specs.Json.{Json}
use Rattle.json.specs.Find.{get}
use Rattle.json.specs.Value.{value_view}
use Rattle.json.specs.declared.value.Value.{Value}
use Rattle.serde_json.specs.Data.{object}
use Rattle.serde_json.specs.Written.{compact_text}
use Rattle.shapes.specs.Parts.{properties_text}
use Rattle.reading.specs.Plain.{PlainId, none, number, text, plain_id}
use Rattle.attributes.specs.Numerals.{signed_of, spelled}
use Rattle.attributes.specs.Values.{members_of, members_reals, one_if}
use Rattle.attributes.specs.declared.info.Attributes.{Attributes}
use Rattle.attributes.specs.declared.rules.AttributeRules.{AttributeRules}
use Rattle.attributes.specs.declared.rules.Reals.{Reals}

-- a member of a feature, where it has one
abbrev pub seen_member : Option (Bor (Value Global)) → Option Json
seen_member m = option_map (λ v. value_view v.now) m

-- the value of the id: that of the member `id`, or of the property of that name
abbrev pub id_source : Option (Bor (List ℕ)) → Option Json → Option Json → Option Json
id_source None i p = i
id_source (Some name) i p = option_and_then (get name.now) p

-- an id that is a number: a whole number of 64 signed bits, or else the text of its numeral
abbrev pub number_id : Option ℤ → List ℕ → PlainId
number_id (Some n) s = number n
number_id None s = text s

-- the id that a value means: none, a number or a text [RFC 7946, 3.2; own]
abbrev pub id_of : Reals → Option Json → PlainId
id_of rule None = none
id_of rule (Some json.null) = none
id_of rule (Some (json.boolean b)) = none
id_of rule (Some (json.number s)) = number_id (signed_of rule s) (spelled s)
id_of rule (Some (json.string s)) = text s
id_of rule (Some (json.array js)) = none
id_of rule (Some (json.object ms)) = none

-- whether a number became a text there
abbrev pub id_reals : Reals → Option Json → ℕ
id_reals rule None = 0
id_reals rule (Some json.null) = 0
id_reals rule (Some (json.boolean b)) = 0
id_reals rule (Some (json.number s)) = one_if (not (is_some (signed_of rule s)))
id_reals rule (Some (json.string s)) = 0
id_reals rule (Some (json.array js)) = 0
id_reals rule (Some (json.object ms)) = 0

-- the members of properties, of which there are none where properties are missing or null [RFC 7946, 3.2; own]
abbrev pub properties_members : Option Json → Option json.Members
properties_members None = Some json.no_members
properties_members (Some json.null) = Some json.no_members
properties_members (Some (json.boolean b)) = None
properties_members (Some (json.number s)) = None
properties_members (Some (json.string s)) = None
properties_members (Some (json.array js)) = None
properties_members (Some (json.object ms)) = Some ms

-- those members, none where properties are of the wrong kind
abbrev pub members_or_none : Option Json → json.Members
members_or_none p = unwrap_or (properties_members p) json.no_members

-- a count that stays at its greatest
abbrev pub counted : ℕ → ℕ
counted n = min n (2 ^ 64 - 1)

-- these are the id and the properties, with the count of numbers that became texts
pub record AreAttributes (r : AttributeRules) (i p : Option Json) (a : Attributes) : Type 0 where
  pub id : plain_id a.id ≡ id_of r.reals (id_source r.id i p)
  pub properties : properties_text a.props ≡ compact_text (object (members_of r.reals r.scales.now (members_or_none p)))
  pub reals : a.reals ≡ counted (id_reals r.reals (id_source r.id i p) + members_reals r.reals r.scales.now (members_or_none p))
