-- The values of properties, by their names.
use Rattle.std.specs.Prelude.{ℕ, List, Option, Some, None}
use Rattle.serde_json.specs.Data.{Data, null, boolean, number, string, array, object}
use Rattle.serde_json.specs.Find.{get}
use Rattle.serde_json.specs.Written.{compact_text}
use Rattle.shapes.specs.Properties.{properties_value}

-- the compact text of a value; none of one that is missing or null
abbrev pub text_of_value : Option Data → Option (List ℕ)
text_of_value None = None
text_of_value (Some null) = None
text_of_value (Some (boolean b)) = Some (compact_text (boolean b))
text_of_value (Some (number n)) = Some (compact_text (number n))
text_of_value (Some (string s)) = Some (compact_text (string s))
text_of_value (Some (array ds)) = Some (compact_text (array ds))
text_of_value (Some (object ms)) = Some (compact_text (object ms))

-- the compact text of the value of a property, by the text of properties; none where it is missing or null
abbrev pub property_text : List ℕ → List ℕ → Option (List ℕ)
property_text name t = text_of_value (get name (properties_value t))
