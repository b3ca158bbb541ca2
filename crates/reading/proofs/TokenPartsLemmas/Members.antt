-- What is known of an object's members, as more are read.
use Rattle.std.proofs.Common.{◌≡◌, ℕ, List, [], Option, Some, None, codes, true, false, true≢false, bytes_eq, refl, sym, ◌∙◌}
use Rattle.std.proofs.lemmas.Slice.Eq.{bytes_eq-Decides}
use Rattle.std.specs.Prelude.{unwrap_or}
use Rattle.faults.specs.Fault.{Pair}
use Rattle.serde_json.specs.Data.{Data, Members, object, put}
use Rattle.serde_json.proofs.Views.{get_member-put, get_member-put_other}
use Rattle.reading.specs.Info.{id_of, member_or_null}
use Rattle.reading.specs.Parts.{option_faults}
use Rattle.reading.specs.Plain.{plain_id}
use Rattle.shapes.specs.Ids.{HasI64}
use Rattle.shapes.specs.declared.shape.Id.{Id}
use Rattle.shapes.specs.declared.shape.Id.TheVariants as id
use Rattle.reading.specs.TokenParts.Members.{KnowsMember, KnowsId}

pub same_name : (xs ys : List ℕ) → true ≡ bytes_eq xs ys → xs ≡ ys
same_name xs ys e = (bytes_eq-Decides xs ys).0 (sym e)

pub other_name : (xs ys : List ℕ) → false ≡ bytes_eq xs ys → ys ≡ xs → ⊥
other_name xs ys e same = true≢false (sym ((bytes_eq-Decides xs ys).1 (sym same)) ∙ sym e)

-- ---- any member

module _ {X : Type 0} (n : List ℕ) (F : Data → List Pair) (R : Data → X → Type 0) where
  pub member_known : (name : List ℕ) (d : Data) (x : X) (ms : Members) → name ≡ n → F d ≡ [] → R d x → KnowsMember n F R (Some x) (put name d ms)
  member_known name d x ms same none means = (d, rw same (get_member-put n d ms), none, means)

  pub member_kept : (o : Option X) (name : List ℕ) (d : Data) (ms : Members) → (n ≡ name → ⊥) → KnowsMember n F R o ms → KnowsMember n F R o (put name d ms)
  member_kept None name d ms other h = get_member-put_other n name d ms other ∙ h
  member_kept (Some x) name d ms other h = (h.0, get_member-put_other n name d ms other ∙ h.1, h.2, h.3)

  -- its faults, and what it means where it is missing
  pub member_faultless : (o : Option X) (ms : Members) → KnowsMember n F R o ms → option_faults n F (object ms) ≡ []
  member_faultless None ms h = rw h refl
  member_faultless (Some x) ms h = rw (h.1, h.2) refl

-- two names that differ
pub apart : (a b name : List ℕ) → bytes_eq a b ≡ false → name ≡ a → b ≡ name → ⊥
apart a b name differ is same = true≢false (sym ((bytes_eq-Decides a b).1 (sym is ∙ sym same)) ∙ differ)

pub id_means : (o : Option Id) (ms : Members) → KnowsId o ms → plain_id (unwrap_or o id.None) ≡ id_of (member_or_null (codes "id") (object ms))
id_means None ms h = rw h refl
id_means (Some i) ms h = rw h.1 h.3.means

pub id_bits : (o : Option Id) (ms : Members) → KnowsId o ms → HasI64 (unwrap_or o id.None)
id_bits None ms h = tt
id_bits (Some i) ms h = h.3.bits
