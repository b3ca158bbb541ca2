-- Written texts are the compact texts of values.
use Rattle.std.proofs.Common.{◌≡◌, ℕ, ℤ, pos, negsuc, List, [], ◌∷◌, ◌++◌, Bool, true, false, cond, Option, Some, None, map, refl, sym, ap, ap₂, ◌∙◌, append_assoc, inl, inr}
use Rattle.std.specs.Prelude.{⊤, codes}
use Rattle.std.specs.Fmt.{signed_decimal}
use Rattle.std.specs.Str.{bytes_eq}
use Rattle.std.proofs.lemmas.Bool.{and_parts}
use Rattle.std.proofs.lemmas.Slice.Eq.{bytes_eq-Decides}
use Rattle.json.specs.Print.{quoted, escape_byte}
use Rattle.serde_json.specs.Data.{Data, Members, no_members, member}
use Rattle.serde_json.specs.View.{items_of}
use Rattle.serde_json.specs.Written.{compact_text, items_text, members_text}
use Rattle.theory.specs.Lists.{Has}
use Rattle.sinks.specs.Texts.{option_text, after_commas, joined, list_text, pair_text}
use Rattle.shapes.specs.Parts.{properties_text}
use Rattle.shapes.specs.Properties.{properties_value}
use Rattle.shapes.specs.declared.props.Props.{Props}
use Rattle.shapes.specs.declared.shape.Id.{Id}
use Rattle.shapes.specs.declared.shape.Id.TheVariants as id
use Rattle.shapes.specs.Writing.Members.{id_text}
use Rattle.round_trip.specs.Compact.Values.{integer, list_data, pair_data, given, id_data, properties_data}

pub number_is : (z : ℤ) → signed_decimal z ≡ compact_text (integer z)
number_is (pos n) = refl
number_is (negsuc n) = refl

-- ---- lists

module _ {T : Type 0} (text : T → List ℕ) (data_of : T → Data) where
  after_is : (xs : List T) (rest : List ℕ) → ((x : T) → Has x xs → text x ≡ compact_text (data_of x)) → after_commas text xs ++ (93 ∷ rest) ≡ items_text true (items_of (map data_of xs)) ++ rest
  after_is [] rest h = refl
  after_is (x ∷ xs) rest h =
      ap (λ l. 44 ∷ l) (append_assoc (text x) (after_commas text xs) (93 ∷ rest)
      ∙ ap₂ (λ (a b : List ℕ). a ++ b) (h x (inl refl)) (after_is xs rest (λ y k. h y (inr k)))
      ∙ sym (append_assoc (compact_text (data_of x)) (items_text true (items_of (map data_of xs))) rest))

  -- the texts with commas between them and a bracket after them
  pub joined_is : (xs : List T) (rest : List ℕ) → ((x : T) → Has x xs → text x ≡ compact_text (data_of x)) → joined text xs ++ (93 ∷ rest) ≡ items_text false (items_of (map data_of xs)) ++ rest
  joined_is [] rest h = refl
  joined_is (x ∷ xs) rest h =
      append_assoc (text x) (after_commas text xs) (93 ∷ rest)
      ∙ ap₂ (λ (a b : List ℕ). a ++ b) (h x (inl refl)) (after_is xs rest (λ y k. h y (inr k)))
      ∙ sym (append_assoc (compact_text (data_of x)) (items_text true (items_of (map data_of xs))) rest)

  after_all : (xs : List T) → ((x : T) → Has x xs → text x ≡ compact_text (data_of x)) → after_commas text xs ++ codes "]" ≡ items_text true (items_of (map data_of xs))
  after_all [] h = refl
  after_all (x ∷ xs) h = ap (λ l. 44 ∷ l) (append_assoc (text x) (after_commas text xs) (codes "]") ∙ ap₂ (λ (a b : List ℕ). a ++ b) (h x (inl refl)) (after_all xs (λ y k. h y (inr k))))

  -- a list of written texts is the text of the list
  pub list_is : (xs : List T) → ((x : T) → Has x xs → text x ≡ compact_text (data_of x)) → list_text text xs ≡ compact_text (list_data data_of xs)
  list_is [] h = refl
  list_is (x ∷ xs) h = ap (λ l. 91 ∷ l) (append_assoc (text x) (after_commas text xs) (codes "]") ∙ ap₂ (λ (a b : List ℕ). a ++ b) (h x (inl refl)) (after_all xs (λ y k. h y (inr k))))

pub numbers_are : (zs : List ℤ) → list_text signed_decimal zs ≡ compact_text (list_data integer zs)
numbers_are zs = list_is signed_decimal integer zs (λ z _. number_is z)

pub pair_is : (x y : ℤ) → pair_text x y ≡ compact_text (pair_data x y)
pair_is x y =
    ap (λ l. 91 ∷ l) (append_assoc (signed_decimal x) (codes "," ++ signed_decimal y) (codes "]")
    ∙ ap₂ (λ (a b : List ℕ). a ++ (44 ∷ (b ++ codes "]"))) (number_is x) (number_is y))

-- ---- members that may be missing

abbrev pub HasMember : Members → Type 0
HasMember no_members = ⊥
HasMember (member k d ms) = ⊤

pub HasMember-given : (k : List ℕ) (o : Option Data) (ms : Members) → HasMember ms → HasMember (given k o ms)
HasMember-given k None ms h = h
HasMember-given k (Some d) ms h = tt

-- a member, and a comma after it
abbrev pub given_text : List ℕ → Data → List ℕ
given_text k d = quoted k ++ (58 ∷ (compact_text d ++ codes ","))

pub given_is : (k : List ℕ) (o : Option Data) (ms : Members) → HasMember ms → option_text (given_text k) o ++ members_text false ms ≡ members_text false (given k o ms)
given_is k None ms h = refl
given_is k (Some d) no_members h = absurd h
given_is k (Some d) (member l e ms) h =
    append_assoc (quoted k) (58 ∷ (compact_text d ++ codes ",")) (members_text false (member l e ms))
    ∙ ap (λ s. quoted k ++ (58 ∷ s)) (append_assoc (compact_text d) (codes ",") (members_text false (member l e ms)))

-- a member before others
pub member_then : (k : List ℕ) (d : Data) (ms : Members) → HasMember ms → members_text false (member k d ms) ≡ quoted k ++ (58 ∷ (compact_text d ++ (44 ∷ members_text false ms)))
member_then k d no_members h = absurd h
member_then k d (member l e ms) h = refl

-- ---- ids and properties

pub id_is : (i : Id) → id_text i ≡ option_text (given_text (codes "id")) (id_data i)
unfolding escape_byte
id_is id.None = refl
id_is (id.Number n) = ap (λ s. codes "\"id\":" ++ (s ++ codes ",")) (number_is n)
id_is (id.Text s) = refl

-- a text of properties is that of its value
pub properties_value_is : (p : Props) → properties_text p ≡ compact_text (properties_value (properties_text p))
properties_value_is p =
    let t = properties_text p in
    let a = and_parts _ _ p.properties in
    let b = and_parts _ _ a.1 in
    let c = and_parts _ _ b.1 in
    (bytes_eq-Decides t (compact_text (properties_value t))).0 c.0

properties_at : (b : Bool) (p : Props) → cond b [] (codes "\"properties\":" ++ (properties_text p ++ codes ","))
    ≡ option_text (given_text (codes "properties")) (cond b None (Some (properties_value (properties_text p))))
unfolding escape_byte
properties_at true p = refl
properties_at false p = ap (λ s. codes "\"properties\":" ++ (s ++ codes ",")) (properties_value_is p)

-- the member `properties` and a comma, nothing where there are none
pub properties_are : (p : Props) → cond (bytes_eq (properties_text p) (codes "{}")) [] (codes "\"properties\":" ++ (properties_text p ++ codes ","))
    ≡ option_text (given_text (codes "properties")) (properties_data (properties_text p))
properties_are p = properties_at (bytes_eq (properties_text p) (codes "{}")) p
