-- Values of properties: numbers that stay numbers, numbers that become texts, and numbers that are scaled.
use Rattle.std.specs.Prelude.{ℕ, ℤ, ◌+◌, Bool, false, not, ◌||◌, List, [], ◌∷◌, bytes_eq, Option, Some, None, is_some, option_and_then, if◌then◌else◌}
use Rattle.json.specs.Json as json
use Rattle.json.specs.Find.{as_number, get, get_member}
use Rattle.serde_json.specs.Data.{Data, null, boolean, number, string, array, object, Items, no_items, item, Members, no_members, put}
use Rattle.serde_json.specs.Find.{of_integer}
use Rattle.attributes.specs.Numerals.{number_value, scaled, whole_of}
use Rattle.attributes.specs.declared.rules.Reals.{Reals}
use Rattle.attributes.specs.declared.rules.Scale.{Scale}

-- of members by one name the last counts
abbrev pub comes_later : List ℕ → json.Members → Bool
comes_later name ms = is_some (get_member name ms)

-- the places by which a property is scaled, as the first of its scales says
abbrev pub places_of : List Scale → List ℕ → Option ℕ
places_of [] name = None
places_of (s ∷ ss) name = if bytes_eq s.property.now name then Some s.places else places_of ss name

-- a number times so many tens, where it has places
abbrev pub scaled_by : Option ℕ → Option (List ℕ) → Option ℤ
scaled_by None text = None
scaled_by (Some places) None = None
scaled_by (Some places) (Some text) = scaled places text

-- the whole number that a property becomes, where it is scaled: 1500 for 1.5 and three places
abbrev pub scaled_property : List Scale → List ℕ → json.Json → Option ℤ
scaled_property ss name j = scaled_by (places_of ss name) (as_number j)

-- that number, or else the value
abbrev pub number_or : Option ℤ → Data → Data
number_or None d = d
number_or (Some n) d = number (of_integer n)

-- what a value becomes: its whole numbers of 64 bits stay, and its other numbers become texts
abbrev mutual
  pub data_of : Reals → json.Json → Data
  data_of rule json.null = null
  data_of rule (json.boolean b) = boolean b
  data_of rule (json.number s) = number_value rule s
  data_of rule (json.string s) = string s
  data_of rule (json.array js) = array (items_of rule js)
  data_of rule (json.object ms) = object (members_of rule [] ms)

  pub items_of : Reals → json.Items → Items
  items_of rule json.no_items = no_items
  items_of rule (json.item j js) = item (data_of rule j) (items_of rule js)

  -- the members of an object, with those of these properties scaled
  pub members_of : Reals → List Scale → json.Members → Members
  members_of rule ss json.no_members = no_members
  members_of rule ss (json.member k j ms) =
      if comes_later k ms then members_of rule ss ms
      else put k (number_or (scaled_property ss k j) (data_of rule j)) (members_of rule ss ms)

-- one, unless it is false
abbrev pub one_if : Bool → ℕ
one_if b = if b then 1 else 0

-- none where there is a number
abbrev pub unless_number : Option ℤ → ℕ → ℕ
unless_number None count = count
unless_number (Some n) count = 0

-- how many numbers of a value become texts
abbrev mutual
  pub reals_of : Reals → json.Json → ℕ
  reals_of rule json.null = 0
  reals_of rule (json.boolean b) = 0
  reals_of rule (json.number s) = one_if (not (is_some (whole_of rule s)))
  reals_of rule (json.string s) = 0
  reals_of rule (json.array js) = items_reals rule js
  reals_of rule (json.object ms) = members_reals rule [] ms

  pub items_reals : Reals → json.Items → ℕ
  items_reals rule json.no_items = 0
  items_reals rule (json.item j js) = reals_of rule j + items_reals rule js

  pub members_reals : Reals → List Scale → json.Members → ℕ
  members_reals rule ss json.no_members = 0
  members_reals rule ss (json.member k j ms) =
      if comes_later k ms then members_reals rule ss ms
      else unless_number (scaled_property ss k j) (reals_of rule j) + members_reals rule ss ms

-- a number that has places but no whole number
abbrev pub is_beyond : ℕ → Option (List ℕ) → Bool
is_beyond places None = false
is_beyond places (Some text) = not (is_some (scaled places text))

-- the member of that name, where it is a number
abbrev pub number_at : List ℕ → Option json.Json → Option (List ℕ)
number_at name p = option_and_then as_number (option_and_then (get name) p)

-- some property is a number that its scale takes beyond the limit
abbrev pub has_beyond : List Scale → Option json.Json → Bool
has_beyond [] p = false
has_beyond (s ∷ ss) p = is_beyond s.places (number_at s.property.now p) || has_beyond ss p
