-- Members by their names, the last of a name counting.
use Rattle.std.proofs.Common.{◌≡◌, ℕ, Bool, true, false, cond, List, Option, Some, None, bytes_eq, refl, sym, ap, ◌∙◌, inl, inr, true≢false}
use Rattle.std.proofs.lemmas.Bool.{cases_Bool}
use Rattle.std.proofs.lemmas.Slice.Eq.{bytes_eq-Decides}
use Rattle.std.specs.Prelude.{is_some, if◌then◌else◌}
use Rattle.json.specs.Json as json
use Rattle.json.specs.Find.{get_member as find, later_or}
use Rattle.serde_json.specs.Data.{Data, Members, put}
use Rattle.serde_json.specs.Find.{get_member}
use Rattle.serde_json.proofs.Views.{get_member-put, get_member-put_other}
use Rattle.attributes.specs.Values.{comes_later, data_of, members_of, number_or, scaled_property}
use Rattle.attributes.specs.declared.rules.Reals.{Reals}
use Rattle.attributes.specs.declared.rules.Scale.{Scale}

pub later_some : (o : Option json.Json) (j : json.Json) → is_some (later_or o (Some j)) ≡ true
later_some None j = refl
later_some (Some i) j = refl

pub later_none : (o : Option json.Json) → is_some (later_or o None) ≡ is_some o
later_none None = refl
later_none (Some i) = refl

-- the same name
here : (later : Bool) (name : List ℕ) (d : Data) (made : Members) → is_some (get_member name made) ≡ later → is_some (get_member name (if later then made else put name d made)) ≡ true
here true name d made e = e
here false name d made e = ap is_some (get_member-put name d made)

-- another name
there : (later : Bool) (name k : List ℕ) (d : Data) (made : Members) → (name ≡ k → ⊥) → is_some (get_member name (if later then made else put k d made)) ≡ is_some (get_member name made)
there true name k d made other = refl
there false name k d made other = ap is_some (get_member-put_other name k d made other)

-- a name is there where the members have it
pub present : (rule : Reals) (ss : List Scale) (name : List ℕ) (ms : json.Members) → is_some (get_member name (members_of rule ss ms)) ≡ comes_later name ms
present rule ss name json.no_members = refl
present rule ss name (json.member k j ms) =
    let d = number_or (scaled_property ss k j) (data_of rule j) in
    let pick = λ (b : Bool). is_some (later_or (find name ms) (cond b (Some j) None)) in
    elim (cases_Bool (bytes_eq k name)) [
      | inl same ↦
          let is : name ≡ k = sym ((bytes_eq-Decides k name).0 same) in
          let kept : is_some (get_member k (members_of rule ss ms)) ≡ comes_later k ms = ap (λ n. is_some (get_member n (members_of rule ss ms))) (sym is) ∙ present rule ss name ms ∙ ap (λ n. comes_later n ms) is in
          ap (λ n. is_some (get_member n (members_of rule ss (json.member k j ms)))) is ∙ here (comes_later k ms) k d (members_of rule ss ms) kept ∙ sym (later_some (find name ms) j) ∙ sym (ap pick same)
      | inr apart ↦
          let other : name ≡ k → ⊥ = λ e. true≢false (sym ((bytes_eq-Decides k name).1 (sym e)) ∙ apart) in
          there (comes_later k ms) name k d (members_of rule ss ms) other ∙ present rule ss name ms ∙ sym (later_none (find name ms)) ∙ sym (ap pick apart)
    ]
