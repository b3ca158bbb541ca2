-- Columns of numbers: members of properties whose numbers became texts.
use Rattle.std.specs.Prelude.{◌≡◌, ℕ, ◌+◌, Bool, true, false, not, ◌&&◌, ◌||◌, ◌==◌, nat_lt, List, [], ◌∷◌, length, Option, Some, None, unwrap_or, if◌then◌else◌}
use Rattle.std.specs.BTreeMap.{get_by_text}
use Rattle.std.specs.BTreeSet.{contains_text}
use Rattle.json.specs.Word.{after_number}
use Rattle.serde_json.specs.Data.{Data, null, boolean, number, string, array, object}
use Rattle.serde_json.specs.Find.{get}
use Rattle.numerals.specs.Numeral.{parts_of}
use Rattle.shapes.specs.Parts.{properties_text}
use Rattle.shapes.specs.Properties.{properties_value}
use Rattle.shapes.specs.declared.props.Props.{Props}
use Rattle.attributes.specs.Attributes.{counted}
use Rattle.attributes.specs.Values.{one_if}
use Rattle.attributes.specs.declared.columns.Columns.{Columns}

-- nothing is left of a text
abbrev pub is_at_end : Option (List ℕ) → Bool
is_at_end None = false
is_at_end (Some []) = true
is_at_end (Some (b ∷ rest)) = false

-- the text is a number of JSON [RFC 8259, section 6]
abbrev pub is_decimal : List ℕ → Bool
is_decimal text = is_at_end (after_number text)

-- and it has a point or an exponent
abbrev pub is_fraction : List ℕ → Bool
is_fraction text = is_decimal text && ((parts_of text).point || not (length (parts_of text).exponent == 0))

-- a value that a column of numbers may have: none, null, a whole number or a decimal text
abbrev pub is_numeric : Option Data → Bool
is_numeric None = true
is_numeric (Some null) = true
is_numeric (Some (boolean b)) = false
is_numeric (Some (number n)) = true
is_numeric (Some (string s)) = is_decimal s
is_numeric (Some (array ds)) = false
is_numeric (Some (object ms)) = false

-- a decimal text with a point or an exponent
abbrev pub is_fraction_text : Option Data → Bool
is_fraction_text None = false
is_fraction_text (Some null) = false
is_fraction_text (Some (boolean b)) = false
is_fraction_text (Some (number n)) = false
is_fraction_text (Some (string s)) = is_fraction s
is_fraction_text (Some (array ds)) = false
is_fraction_text (Some (object ms)) = false

-- the value of the member of that name
abbrev pub value_at : List ℕ → Props → Option Data
value_at name p = get name (properties_value (properties_text p))

-- all features of a layer have such values there
abbrev pub all_numeric : List ℕ → List Props → Bool
all_numeric name [] = true
all_numeric name (p ∷ ps) = is_numeric (value_at name p) && all_numeric name ps

-- how many features have a decimal text with a point or an exponent there
abbrev pub fraction_texts : List ℕ → List Props → ℕ
fraction_texts name [] = 0
fraction_texts name (p ∷ ps) = one_if (is_fraction_text (value_at name p)) + fraction_texts name ps

-- how many texts of a column of numbers have a point or an exponent. It is none where some feature has another value, or
-- none has such a text
abbrev pub number_column : List ℕ → List Props → Option ℕ
number_column name ps = if all_numeric name ps && nat_lt 0 (fraction_texts name ps) then Some (counted (fraction_texts name ps)) else None

-- what is known of the members by one name
pub record Column : Type 0 where
  pub texts : Option ℕ
  pub mixed : Bool

-- what is known of them in a layer's features
abbrev pub column_of : List ℕ → List Props → Column
column_of name ps = record { texts = number_column name ps; mixed = not (all_numeric name ps) }

-- what columns know of them
abbrev pub column_at : Columns → List ℕ → Column
column_at c name = record { texts = get_by_text c.numbers name; mixed = contains_text c.mixed name }

-- the columns are those of a layer's features
abbrev pub AreColumns : Columns → List Props → Type 0
AreColumns c ps = (name : List ℕ) → column_at c name ≡ column_of name ps

-- one decimal text more, with a point or an exponent
abbrev pub with_text : Column → Column
with_text c = if c.mixed then c else record { texts = Some (counted (1 + unwrap_or c.texts 0)); mixed = false }

-- no column of numbers
abbrev pub excluded : Column
excluded = record { texts = None; mixed = true }

-- one value more
abbrev pub with_value : Option Data → Column → Column
with_value v c = if is_fraction_text v then with_text c else (if is_numeric v then c else excluded)
