-- Properties with their numbers as they were before they became whole numbers and texts.
use Rattle.std.specs.Prelude.{ℕ, ℤ, ◌++◌, [], ◌∷◌, Bool, true, false, ◌&&◌, nat_le, List, Option, Some, None, if◌then◌else◌}
use Rattle.json.specs.Print.{quoted}
use Rattle.numerals.specs.Amount.{Amount, amount, amount_text}
use Rattle.serde_json.specs.Data.{Data, Num, null, boolean, number, string, array, object, Members, no_members, member}
use Rattle.serde_json.specs.Find.{as_integer}
use Rattle.serde_json.specs.Written.{comma_if, compact_text, number_text}
use Rattle.shapes.specs.Properties.{properties_value}
use Rattle.attributes.specs.Columns.{is_decimal}
use Rattle.attributes.specs.Values.{places_of}
use Rattle.attributes.specs.declared.rules.Scale.{Scale}

-- a whole number over a power of ten, of at most 30 places
abbrev pub over_tens : ℕ → Option ℤ → Option Amount
over_tens places None = None
over_tens places (Some n) = if nat_le places 30 then Some (amount n places) else None

-- the number that a whole number was before it was scaled: 1.5 for 1500 and three places
abbrev pub unscaled : Option ℕ → Num → Option Amount
unscaled None n = None
unscaled (Some places) n = over_tens places (as_integer n)

-- that number, or else the text
abbrev pub amount_or : Option Amount → List ℕ → List ℕ
amount_or None text = text
amount_or (Some a) text = amount_text a

-- a number that was scaled is what it was; others stay
abbrev pub number_back : Option ℕ → Num → List ℕ
number_back places n = amount_or (unscaled places n) (number_text n)

-- a decimal text of a column of numbers is that number; others stay
abbrev pub string_back : Bool → List ℕ → List ℕ
string_back numeric s = if numeric && is_decimal s then s else quoted s

-- what is printed of a member
abbrev pub value_back : Bool → Option ℕ → Data → List ℕ
value_back numeric places null = compact_text null
value_back numeric places (boolean b) = compact_text (boolean b)
value_back numeric places (number n) = number_back places n
value_back numeric places (string s) = string_back numeric s
value_back numeric places (array ds) = compact_text (array ds)
value_back numeric places (object ms) = compact_text (object ms)

-- the members of properties, with the closing bracket
abbrev pub members_back : (List ℕ → Bool) → List Scale → Bool → Members → List ℕ
members_back numeric scales later no_members = 125 ∷ []
members_back numeric scales later (member k d ms) =
    comma_if later ++ (quoted k ++ 58 ∷ (value_back (numeric k) (places_of scales k) d ++ members_back numeric scales true ms))

abbrev pub object_members : Data → Members
object_members null = no_members
object_members (boolean b) = no_members
object_members (number n) = no_members
object_members (string s) = no_members
object_members (array ds) = no_members
object_members (object ms) = ms

-- the text of properties in which columns of numbers are numbers, and scaled numbers are divided again
abbrev pub properties_back : (List ℕ → Bool) → List Scale → List ℕ → List ℕ
properties_back numeric scales text = 123 ∷ members_back numeric scales false (object_members (properties_value text))
