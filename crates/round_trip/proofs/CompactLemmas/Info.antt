-- Ids and properties that are written have no fault, mean what was written, and read back.
use Rattle.std.proofs.Common.{◌≡◌, ℕ, List, [], Bool, true, false, not, cond, nat_le, Option, Some, None, is_some, unwrap_or, IsUtf8, refl, sym, ap, ◌∙◌}
use Rattle.std.proofs.lemmas.Bool.{and_parts, leb-true}
use Rattle.std.proofs.lemmas.Slice.Eq.{bytes_eq-Decides}
use Rattle.std.proofs.lemmas.Str.{IsUtf8-from_is_utf8}
use Rattle.std.specs.Prelude.{codes}
use Rattle.std.specs.Str.{bytes_eq}
use Rattle.serde_json.specs.Data.{Data, null, boolean, number, string, array, object, Members, no_members, depth}
use Rattle.serde_json.specs.Find.{as_object}
use Rattle.serde_json.specs.Read.{read}
use Rattle.serde_json.specs.Written.{compact_text, has_float}
use Rattle.shapes.specs.declared.nesting.TheConstants.{GREATEST_PROPERTY_DEPTH}
use Rattle.shapes.specs.Ids.{HasI64}
use Rattle.shapes.specs.Parts.{spelled_text, properties_text}
use Rattle.shapes.specs.Properties.{properties_value}
use Rattle.shapes.specs.declared.props.Props.{Props}
use Rattle.shapes.specs.declared.shape.Id.{Id}
use Rattle.shapes.specs.declared.shape.Id.TheVariants as id
use Rattle.reading.specs.Info.{id_faults, properties_faults, id_of, properties_of}
use Rattle.reading.specs.Parts.{if_there}
use Rattle.reading.specs.Plain.{plain_id}
use Rattle.round_trip.specs.Compact.Values.{id_data, properties_data}
use Rattle.round_trip.specs.Compact.Good.{Good}
use Rattle.round_trip.proofs.CompactLemmas.GoodParts.{Good-number, Good-string, Good-text}
use Rattle.round_trip.proofs.CompactLemmas.Members.{OptionGood}
use Rattle.round_trip.proofs.CompactLemmas.Numbers.{Fits-IsI64, as_i64-of_integer}
use Rattle.round_trip.proofs.CompactLemmas.Texts.{properties_value_is}

-- ---- ids

pub id_faultless : (i : Id) → HasI64 i → if_there id_faults (id_data i) ≡ []
id_faultless id.None h = refl
id_faultless (id.Number n) h = rw (as_i64-of_integer n h)
id_faultless (id.Text s) h = refl

pub id_means : (i : Id) → HasI64 i → id_of (unwrap_or (id_data i) null) ≡ plain_id i
id_means id.None h = refl
id_means (id.Number n) h = rw (as_i64-of_integer n h)
id_means (id.Text s) h = refl

pub Good-id : (n : ℕ) (i : Id) → HasI64 i → OptionGood n (id_data i)
Good-id n id.None h = tt
Good-id n (id.Number z) h = Good-number n z (Fits-IsI64 z h)
Good-id n (id.Text s) h = Good-string n (spelled_text s) (IsUtf8-from_is_utf8 (spelled_text s) s.utf8)

-- ---- properties

-- the value is an object
is_there : (d : Data) → is_some (as_object d) ≡ true → (ms : Members) × (d ≡ object ms)
is_there null e = absurd (cc)
is_there (boolean b) e = absurd (cc)
is_there (number n) e = absurd (cc)
is_there (string s) e = absurd (cc)
is_there (array ds) e = absurd (cc)
is_there (object ms) e = (ms, refl)

-- what each value of properties is
pub record AreProperties (t : List ℕ) (d : Data) : Type 0 where
  pub reads : is_some (read t) ≡ true
  pub object : is_some (as_object d) ≡ true
  pub utf8 : IsUtf8 t
  pub whole : not (has_float d) ≡ true
  pub shallow : nat_le (depth d) GREATEST_PROPERTY_DEPTH ≡ true

are_properties : (p : Props) → AreProperties (properties_text p) (properties_value (properties_text p))
are_properties p =
    let a = and_parts _ _ p.properties in
    let b = and_parts _ _ a.1 in
    let c = and_parts _ _ b.1 in
    let d = and_parts _ _ c.1 in
    let f = and_parts _ _ d.1 in
    record { reads = a.0; object = b.0; utf8 = IsUtf8-from_is_utf8 (properties_text p) d.0; whole = f.0; shallow = f.1 }

not_true : (b : Bool) → not b ≡ true → b ≡ false
not_true true e = absurd (cc)
not_true false e = refl

object_faultless : (ms : Members) → not (has_float (object ms)) ≡ true → nat_le (depth (object ms)) GREATEST_PROPERTY_DEPTH ≡ true → properties_faults (object ms) ≡ []
object_faultless ms whole shallow = rw (not_true _ whole, shallow)

value_faultless : (t : List ℕ) (d : Data) → AreProperties t d → properties_faults d ≡ []
value_faultless t d h =
    let m = is_there d h.object in
    ap properties_faults m.1 ∙ object_faultless m.0 (ap (λ e. not (has_float e)) (sym m.1) ∙ h.whole) (ap (λ e. nat_le (depth e) GREATEST_PROPERTY_DEPTH) (sym m.1) ∙ h.shallow)

value_means : (t : List ℕ) (d : Data) → AreProperties t d → properties_of d ≡ compact_text d
value_means t d h = let m = is_there d h.object in ap properties_of m.1 ∙ sym (ap compact_text m.1)

faultless_at : (b : Bool) (t : List ℕ) (d : Data) → AreProperties t d → if_there properties_faults (cond b None (Some d)) ≡ []
faultless_at true t d h = refl
faultless_at false t d h = value_faultless t d h

pub properties_faultless : (p : Props) → if_there properties_faults (properties_data (properties_text p)) ≡ []
properties_faultless p = let t = properties_text p in faultless_at (bytes_eq t (codes "{}")) t (properties_value t) (are_properties p)

means_at : (b : Bool) (t : List ℕ) (d : Data) → AreProperties t d → t ≡ compact_text d → bytes_eq t (codes "{}") ≡ b → properties_of (unwrap_or (cond b None (Some d)) null) ≡ t
means_at true t d h is e = sym ((bytes_eq-Decides t (codes "{}")).0 e)
means_at false t d h is e = value_means t d h ∙ sym is

pub properties_mean : (p : Props) → properties_of (unwrap_or (properties_data (properties_text p)) null) ≡ properties_text p
properties_mean p = let t = properties_text p in means_at (bytes_eq t (codes "{}")) t (properties_value t) (are_properties p) (properties_value_is p) refl

found : (o : Option Data) (d : Data) → is_some o ≡ true → o ≡ Some (unwrap_or o d)
found None d e = absurd (cc)
found (Some e) d h = refl

-- the value of properties reads back
pub Good-value : (p : Props) → Good 64 (properties_value (properties_text p))
Good-value p =
    let t = properties_text p in
    let h = are_properties p in
    Good-text t (properties_value t) (found (read t) (object no_members) h.reads) p.lexed (properties_value_is p) h.utf8 (leb-true _ _ h.shallow)

Good-at : (b : Bool) (d : Data) → Good 64 d → OptionGood 64 (cond b None (Some d))
Good-at true d h = tt
Good-at false d h = h

pub Good-properties : (p : Props) → OptionGood 64 (properties_data (properties_text p))
Good-properties p = Good-at (bytes_eq (properties_text p) (codes "{}")) _ (Good-value p)

-- the value of properties has no fault, and means their text
pub properties_value_faultless : (p : Props) → properties_faults (properties_value (properties_text p)) ≡ []
properties_value_faultless p = let t = properties_text p in value_faultless t (properties_value t) (are_properties p)

pub properties_value_means : (p : Props) → properties_of (properties_value (properties_text p)) ≡ properties_text p
properties_value_means p = let t = properties_text p in value_means t (properties_value t) (are_properties p) ∙ sym (properties_value_is p)
