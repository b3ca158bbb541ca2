-- Properties that are printed with their numbers as they were.
use Rattle.std.proofs.Common.{◌≡◌, ℕ, Bool, true, false, List, [], ◌∷◌, ◌++◌, Some, None, is_some, append_assoc, unwrap_or, refl, sym, ap, ◌∙◌, true≢false}
use Rattle.std.proofs.lemmas.Bool.{and_parts, not-true, or_parts}
use Rattle.std.proofs.lemmas.Slice.Eq.{bytes_eq-Decides}
use Rattle.std.specs.Prelude.{not}
use Rattle.std.specs.Str.{bytes_eq, is_utf8}
use Rattle.json.specs.Print.{quoted}
use Rattle.serde_json.specs.Data.{Data, Members, array, boolean, member, no_members, null, number, object, string}
use Rattle.serde_json.specs.Find.{as_object}
use Rattle.serde_json.specs.Read.{read}
use Rattle.serde_json.specs.Written.{comma_if, compact_text, has_float, members_have_float, members_text}
use Rattle.shapes.specs.Properties.{is_properties, properties_value}
use Rattle.attributes.specs.Back.{members_back, object_members, properties_back, value_back}
use Rattle.attributes.specs.Laws.{PropertiesStayBack}
use Rattle.attributes.specs.Values.{places_of}
use Rattle.attributes.specs.declared.rules.Scale.{Scale}

-- ---- members one after another

-- a text is that of the members before the rest, where they have no float
abbrev pub IsBehind : (List ℕ → Bool) → List Scale → List ℕ → Bool → Members → Members → Type 0
IsBehind numeric scales text later rest all =
    members_have_float all ≡ false → (members_have_float rest ≡ false) × (text ++ members_back numeric scales later rest ≡ 123 ∷ members_back numeric scales false all)

module _ (numeric : List ℕ → Bool) (scales : List Scale) where
  joined : (text new comma key value rest : List ℕ) → new ≡ text ++ (comma ++ (key ++ 58 ∷ value)) → new ++ rest ≡ text ++ (comma ++ (key ++ 58 ∷ (value ++ rest)))
  joined text new comma key value rest e =
      ap (λ t. t ++ rest) e ∙ append_assoc text (comma ++ (key ++ 58 ∷ value)) rest
      ∙ ap (λ t. text ++ t) (append_assoc comma (key ++ 58 ∷ value) rest ∙ ap (λ t. comma ++ t) (append_assoc key (58 ∷ value) rest))

  -- one member more
  pub one_more : (text new : List ℕ) (later : Bool) (k : List ℕ) (d : Data) (ms all : Members) → IsBehind numeric scales text later (member k d ms) all
      → (has_float d ≡ false → new ≡ text ++ (comma_if later ++ (quoted k ++ 58 ∷ value_back (numeric k) (places_of scales k) d))) → IsBehind numeric scales new true ms all
  one_more text new later k d ms all before made whole =
      let given = before whole in
      let parts = or_parts (has_float d) (members_have_float ms) given.0 in
      (parts.1, joined text new (comma_if later) (quoted k) (value_back (numeric k) (places_of scales k) d) (members_back numeric scales true ms) (made parts.0) ∙ given.1)

-- before the first member
pub begins : (numeric : List ℕ → Bool) (scales : List Scale) (text : List ℕ) (rest all : Members) → text ≡ 123 ∷ [] → rest ≡ all → IsBehind numeric scales text false rest all
begins numeric scales text rest all e is whole = (ap members_have_float is ∙ whole, ap (λ t. t ++ members_back numeric scales false rest) e ∙ ap (λ ms. 123 ∷ members_back numeric scales false ms) is)

-- behind the last
pub ends : (numeric : List ℕ → Bool) (scales : List Scale) (text printed : List ℕ) (later : Bool) (rest all : Members) → IsBehind numeric scales text later rest all → rest ≡ no_members → printed ≡ text ++ (125 ∷ [])
    → members_have_float all ≡ false → printed ≡ 123 ∷ members_back numeric scales false all
ends numeric scales text printed later rest all behind none made whole = made ∙ ap (λ ms. text ++ members_back numeric scales later ms) (sym none) ∙ (behind whole).1

-- ---- properties

is_whole : (t : List ℕ) → is_properties t ≡ true → has_float (properties_value t) ≡ false
is_whole t e =
    let reads = and_parts (is_some (read t)) _ e in
    let kind = and_parts (is_some (as_object (properties_value t))) _ reads.1 in
    let text = and_parts (bytes_eq t (compact_text (properties_value t))) _ kind.1 in
    let utf8 = and_parts (is_utf8 t) _ text.1 in
    not-true (has_float (properties_value t)) (and_parts (not (has_float (properties_value t))) _ utf8.1).0

value_is : (t : List ℕ) (d : Data) → read t ≡ Some d → properties_value t ≡ d
value_is t d reads = ap (λ o. unwrap_or o (object no_members)) reads

-- the members that properties read as
pub members_are : (t : List ℕ) (d : Data) (ms : Members) → is_properties t ≡ true → read t ≡ Some d → d ≡ object ms → (members_have_float ms ≡ false) × (properties_value t ≡ object ms)
members_are t d ms is reads same =
    let value = value_is t d reads ∙ same in
    (sym (ap has_float value) ∙ is_whole t is, value)

pub printed_back : (numeric : List ℕ → Bool) (scales : List Scale) (t : List ℕ) (ms : Members) → properties_value t ≡ object ms → 123 ∷ members_back numeric scales false ms ≡ properties_back numeric scales t
printed_back numeric scales t ms is = sym (ap (λ d. 123 ∷ members_back numeric scales false (object_members d)) is)

-- ---- properties that stay

value_stays : (d : Data) → value_back false None d ≡ compact_text d
value_stays null = refl
value_stays (boolean b) = refl
value_stays (number n) = refl
value_stays (string s) = refl
value_stays (array ds) = refl
value_stays (object ms) = refl

members_stay : (later : Bool) (ms : Members) → members_back (λ _. false) [] later ms ≡ members_text later ms
members_stay later no_members = refl
members_stay later (member k d ms) =
    ap (λ v. comma_if later ++ (quoted k ++ 58 ∷ (v ++ members_back (λ _. false) [] true ms))) (value_stays d) ∙ ap (λ r. comma_if later ++ (quoted k ++ 58 ∷ (compact_text d ++ r))) (members_stay true ms)

object_stays : (d : Data) → is_some (as_object d) ≡ true → 123 ∷ members_back (λ _. false) [] false (object_members d) ≡ compact_text d
object_stays null e = absurd (true≢false (sym e))
object_stays (boolean b) e = absurd (true≢false (sym e))
object_stays (number n) e = absurd (true≢false (sym e))
object_stays (string s) e = absurd (true≢false (sym e))
object_stays (array ds) e = absurd (true≢false (sym e))
object_stays (object ms) e = ap (λ t. 123 ∷ t) (members_stay false ms)

pub stay_back : PropertiesStayBack
stay_back p =
    let t = p.text in
    let reads = and_parts (is_some (read t)) _ p.properties in
    let kind = and_parts (is_some (as_object (properties_value t))) _ reads.1 in
    let text = and_parts (bytes_eq t (compact_text (properties_value t))) _ kind.1 in
    object_stays (properties_value t) kind.0 ∙ sym ((bytes_eq-Decides t (compact_text (properties_value t))).0 text.0)
