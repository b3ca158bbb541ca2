-- The map of a file, which is a text or a sequence of texts.
use Rattle.std.specs.Prelude.{◌≡◌, ℕ, ◌+◌, List, [], ◌∷◌, ◌++◌, Some, Bool, true, false}
use Rattle.std.specs.Str.{IsUtf8}
use Rattle.json.specs.Json.{Json, document}
use Rattle.decimal_faults.specs.Maps.{faults_of_text}
use Rattle.decimal_maps.specs.Roots.{IsMap}
use Rattle.decimal_maps.specs.declared.feature.RawFeature.{RawFeature}
use Rattle.decimal_maps.specs.declared.rules.MapRules.{MapRules}
use Rattle.faults.specs.Fault.{Pair}
use Rattle.faults.specs.Path.{index}
use Rattle.reading.specs.Fault.{under}
use Rattle.rounded_maps.specs.Fixed.{IsFixedMap}
use Rattle.rounded_maps.specs.Sequences.{texts_in, records_of, without_mark}
use Rattle.rounded_maps.specs.declared.map.RoundedMap.{RoundedMap}
use Rattle.rounded_maps.specs.declared.rounding.RoundingRules.{RoundingRules}

-- the text is JSON in UTF-8, and by its tree a map of these features
pub record IsRead (rules : MapRules) (text : List ℕ) (raws : List RawFeature) : Type 0 where
  pub utf8 : IsUtf8 text
  pub tree : Json
  pub json : document text ≡ Some tree
  pub map : IsMap rules tree raws

-- the features of the texts, those of each behind those of the one before
abbrev pub AreRead : MapRules → List (List ℕ) → List RawFeature → Type 0
AreRead rules [] raws = raws ≡ []
AreRead rules (t ∷ ts) raws = (first : List RawFeature) × ((rest : List RawFeature) × ((raws ≡ first ++ rest) × (IsRead rules t first × AreRead rules ts rest)))

-- the map of a file: the features of its texts, each fixed
pub record IsRounded (rules : RoundingRules) (is_sequence : Bool) (bytes : List ℕ) (m : RoundedMap) : Type 0 where
  pub raws : List RawFeature
  pub read : AreRead rules.map (texts_in is_sequence bytes) raws
  pub fixed : IsFixedMap rules.fixing rules.numbers raws m

-- the faults of a text that the rules don't fix
abbrev pub text_faults : RoundingRules → List ℕ → List Pair
text_faults rules text = faults_of_text rules.map rules.fixing text

-- the faults of texts, each under the number of its text, where the first has the number n
abbrev pub texts_faults : RoundingRules → ℕ → List (List ℕ) → List Pair
texts_faults rules n [] = []
texts_faults rules n (t ∷ ts) = under (index n) (text_faults rules t) ++ texts_faults rules (n + 1) ts

-- the faults of a file that the rules don't fix
abbrev pub faults_under : RoundingRules → Bool → List ℕ → List Pair
faults_under rules true bytes = texts_faults rules 0 (records_of (without_mark bytes))
faults_under rules false bytes = text_faults rules (without_mark bytes)
