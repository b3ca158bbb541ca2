-- What holds of values, of scaled numbers, and of faults.
use Rattle.std.specs.Prelude.{◌≡◌, ◌↔◌, ℕ, ℤ, pos, ◌*ℤ◌, false, List, [], Option, Some}
use Rattle.grid.specs.Place.{IsGridNumber}
use Rattle.json.specs.Json as json
use Rattle.json.specs.Json.{Json}
use Rattle.json.specs.Tree.{HasNumbers}
use Rattle.numerals.specs.Numeral.{AreEqual, IsNumeral, IsSnapped, denominator, measure, numerator}
use Rattle.reading.specs.FaultLists.Ascending.{IsAscending}
use Rattle.reading.specs.Plain as plain
use Rattle.serde_json.specs.Data.{Data, Num, number}
use Rattle.serde_json.specs.Read.{of_json}
use Rattle.serde_json.specs.Written.{has_float}
use Rattle.shapes.specs.Parts.{properties_text}
use Rattle.shapes.specs.declared.props.Props.{Props}
use Rattle.attributes.specs.Attributes.{id_of}
use Rattle.attributes.specs.Back.{properties_back}
use Rattle.attributes.specs.Numerals.{integer_of, scaled}
use Rattle.attributes.specs.Refusals.{attributes_faults}
use Rattle.attributes.specs.Values.{data_of}
use Rattle.attributes.specs.declared.rules.AttributeRules.{AttributeRules}
use Rattle.attributes.specs.declared.rules.Reals.{Reals}
use Rattle.attributes.specs.declared.rules.Reals.TheVariants.{Text, Whole}

-- a value that `serde_json` reads, all its numbers whole, is what it becomes, where numbers that are written otherwise
-- become texts
abbrev pub WholeValuesStay : Type 0
WholeValuesStay = (j : Json) (d : Data) → of_json j ≡ Some d → has_float d ≡ false → data_of Text j ≡ d

-- the same under each rule, the texts of its numbers being numbers of JSON
abbrev pub ReadWholeValuesStay : Type 0
ReadWholeValuesStay = (rule : Reals) (j : Json) (d : Data) → HasNumbers j → of_json j ≡ Some d → has_float d ≡ false → data_of rule j ≡ d

-- a numeral is worth a whole number just where `integer_of` says so
abbrev pub IntegersAreWorth : Type 0
IntegersAreWorth = (text : List ℕ) (z : ℤ) → (integer_of text ≡ Some z) ↔ (IsNumeral text × (numerator text ≡ z *ℤ pos (denominator text)))

-- of two numerals that are worth the same, where one becomes a whole number the other becomes the same one, however it is
-- written
abbrev pub EqualNumeralsAreOneNumber : Type 0
EqualNumeralsAreOneNumber = (a b : List ℕ) (n : Num) → IsNumeral a → IsNumeral b → AreEqual a b → data_of Whole (json.number a) ≡ number n → data_of Whole (json.number b) ≡ number n

-- and the same of ids
abbrev pub EqualNumeralsAreOneId : Type 0
EqualNumeralsAreOneId = (a b : List ℕ) (z : ℤ) → IsNumeral a → IsNumeral b → AreEqual a b
    → id_of Whole (Some (json.number a)) ≡ plain.number z → id_of Whole (Some (json.number b)) ≡ plain.number z

-- a scaled number is the one whole number that is nearest to 10^places times the numeral, where there is one within the limits
abbrev pub ScaledIsNearest : Type 0
ScaledIsNearest = (places : ℕ) (text : List ℕ) (p : ℤ) → (scaled places text ≡ Some p) ↔ (IsNumeral text × IsSnapped (measure 1 places) text p × IsGridNumber p)

-- faults are listed by their paths and numbers, each once
abbrev pub FaultsAscend : Type 0
FaultsAscend = (r : AttributeRules) (i p : Option Json) → IsAscending (attributes_faults r i p)

-- where no member is a column of numbers, and none was scaled, properties are printed as they are
abbrev pub PropertiesStayBack : Type 0
PropertiesStayBack = (p : Props) → properties_back (λ _. false) [] (properties_text p) ≡ properties_text p
