-- The members of an object in the order of their names.
use Rattle.std.proofs.Common.{◌≡◌, inl, inr, List, [], ◌∷◌, ◌++◌, String, Global, string_bytes, string_cmp, Less, Equal, ℕ, map, append_assoc, append-nil, sym, ap, ◌∙◌, subst}
use Rattle.std.specs.Cmp.{tied_itself}
use Rattle.std.specs.Cmp.Lexicographic.{slice_cmp, nat_list_cmp_total}
use Rattle.std.specs.List.{AllByRecursion}
use Rattle.std.specs.List.Sorted.{IsStrictlySortedBy}
use Rattle.std.specs.Map.{keys_of}
use Rattle.std.specs.Ordering.{nat_cmp}
use Rattle.std.proofs.lemmas.List.{map-append}
use Rattle.theory.specs.Lists.{Has, Distinct}
use Rattle.serde_json.specs.Data.{Data, Members, no_members, member}
use Rattle.serde_json.specs.View.{view, members_view}
use Rattle.serde_json.proofs.Views.{Entry}
use Rattle.faults.specs.Path.{name}
use Rattle.faults.specs.Fault.{Pair, Lifted}
use Rattle.reading.specs.Fault.{under, LeastOrWant}
use Rattle.reading.specs.Parts.{each_member_faults, MeanMembers}
use Rattle.faults.specs.declared.fault.Fault.{Fault}
use Rattle.reading.proofs.Least.{After, after_none, after_under, after_append, lifted}

after_members : (of : Data → List Pair) (k : String Global) (es : List Entry) → AllByRecursion (λ y. string_cmp k y ≡ Less) (keys_of es) → After (name (string_bytes k)) (each_member_faults of (members_view es))
after_members of k [] h = after_none _
after_members of k (e ∷ es) h = after_append (name (string_bytes k)) (under (name (string_bytes e.0)) (of (view e.1))) _ (after_under (name (string_bytes k)) (name (string_bytes e.0)) (of (view e.1)) h.0) (after_members of k es h.1)

-- a member's fault, where those before it have none
pub member_lifted : (of : Data → List Pair) (done : List Entry) (e : Entry) (left : List Entry) (old new : Fault) → IsStrictlySortedBy string_cmp (keys_of (done ++ e ∷ left))
    → LeastOrWant (of (view e.1)) old → Lifted (name (string_bytes e.0)) old new → LeastOrWant (each_member_faults of (members_view (e ∷ left))) new
unfolding IsStrictlySortedBy
member_lifted of [] e left old new h part up = lifted (name (string_bytes e.0)) (of (view e.1)) _ old new part up (after_members of e.0 left h.0)
member_lifted of (d ∷ done) e left old new h part up = member_lifted of done e left old new h.1 part up

abbrev pub named : {X : Type 0} → String Global × X → List ℕ × X
named m = (string_bytes m.0, m.1)

-- what was read so far, with whatever the members that are left mean
abbrev pub MeansAfter : {X : Type 0} → (Data → X → Type 0) → Members → Members → List (String Global × X) → Type 0
MeansAfter {X} R whole left found = (xs : List (List ℕ × X)) → MeanMembers R left xs → MeanMembers R whole (map named found ++ xs)

pub members_more : {X : Type 0} (R : Data → X → Type 0) (k : List ℕ) (d : Data) (left whole : Members) (found now : List (String Global × X)) (s : String Global) (x : X)
    → now ≡ found ++ (s, x) ∷ [] → string_bytes s ≡ k → R d x → MeansAfter R whole (member k d left) found → MeansAfter R whole left now
members_more {X} R k d left whole found now s x is is_name means before xs h =
    let y : List ℕ × X = (string_bytes s, x) in
    let same : map named now ++ xs ≡ map named found ++ y ∷ xs = ap (λ n. map named n ++ xs) is ∙ ap (λ n. n ++ xs) (map-append named found ((s, x) ∷ [])) ∙ append_assoc (map named found) (y ∷ []) xs in
    subst (MeanMembers R whole) (sym same) (before (y ∷ xs) ((is_name, means), h))

pub members_all : {X : Type 0} (R : Data → X → Type 0) (whole : Members) (found : List (String Global × X)) → MeansAfter R whole no_members found → MeanMembers R whole (map named found)
members_all R whole found after = subst (MeanMembers R whole) (append-nil (map named found)) (after [] tt)

names_apart : {X : Type 0} (R : Data → X → Type 0) (k : String Global) (es : List Entry) (ms : List (String Global × X)) → AllByRecursion (λ y. string_cmp k y ≡ Less) (keys_of es) → MeanMembers R (members_view es) (map named ms)
    → Has (string_bytes k) (map (λ m. string_bytes m.0) ms) → ⊥
names_apart R k es [] below mean h = absurd h
names_apart R k [] (m ∷ ms) below mean h = absurd mean
names_apart R k (e ∷ es) (m ∷ ms) below mean (inl same) =
    let less : slice_cmp nat_cmp (string_bytes k) (string_bytes k) ≡ Less = subst (λ n. slice_cmp nat_cmp (string_bytes k) n ≡ Less) (sym (same ∙ mean.0.0)) below.0 in
    not_less (sym (tied_itself nat_list_cmp_total (string_bytes k)) ∙ less)
  where
    not_less : Equal ≡ Less → ⊥
    not_less e = cc
names_apart R k (e ∷ es) (m ∷ ms) below mean (inr h) = names_apart R k es ms below.1 mean.1 h

-- members in the order of their names have each name once
pub names_once : {X : Type 0} (R : Data → X → Type 0) (es : List Entry) (ms : List (String Global × X)) → IsStrictlySortedBy string_cmp (keys_of es) → MeanMembers R (members_view es) (map named ms) → Distinct (map (λ m. string_bytes m.0) ms)
unfolding IsStrictlySortedBy
names_once R es [] ordered mean = tt
names_once R [] (m ∷ ms) ordered mean = absurd mean
names_once R (e ∷ es) (m ∷ ms) ordered mean = (
  λ h. names_apart R e.0 es ms ordered.0 mean.1 (subst (λ n. Has n (map (λ m. string_bytes m.0) ms)) mean.0.0 h),
  names_once R es ms ordered.1 mean.1,
)
