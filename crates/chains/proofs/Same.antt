-- Lists in which the same stand.
use Rattle.std.proofs.Common.{◌≡◌, ℕ, ◌<◌, List, [], ◌∷◌, ◌++◌, append_assoc, inl, inr, sym, subst, length, get_or}
use Rattle.theory.specs.Lists.{Has}
use Rattle.theory.proofs.Lists.{Has-append, Has-append_left, Has-append_right}
use Rattle.chains.specs.Visits.{HaveSame}
use Rattle.lines.proofs.SortedLists.{has_from_contains}

pub same_refl : {A : Type 0} (a : List A) → HaveSame a a
same_refl a = record { members = λ w. (λ h. h, λ h. h) }

pub same_sym : {A : Type 0} {a b : List A} → HaveSame a b → HaveSame b a
same_sym s = record { members = λ w. ((s.members w).1, (s.members w).0) }

pub same_trans : {A : Type 0} {a b c : List A} → HaveSame a b → HaveSame b c → HaveSame a c
same_trans s t = record { members = λ w. (λ h. (t.members w).0 ((s.members w).0 h), λ h. (s.members w).1 ((t.members w).1 h)) }

-- equal lists
pub same_equal : {A : Type 0} {a b : List A} → a ≡ b → HaveSame a b
same_equal {a = a} e = subst (HaveSame a) e (same_refl a)

has_before : {A : Type 0} {a b : List A} (c : List A) → HaveSame a b → (w : A) → Has w (a ++ c) → Has w (b ++ c)
has_before {a = a} {b = b} c s w h =
    elim (Has-append w a c h) [
      | inl k ↦ Has-append_left w b c ((s.members w).0 k)
      | inr k ↦ Has-append_right w b c k
    ]

-- the same list behind both
pub same_before : {A : Type 0} {a b : List A} (c : List A) → HaveSame a b → HaveSame (a ++ c) (b ++ c)
same_before c s = record { members = λ w. (has_before c s w, has_before c (same_sym s) w) }

again : {A : Type 0} (w : A) (a : List A) → Has w a → (v : A) → Has v (a ++ w ∷ []) → Has v a
again w a h v k =
    elim (Has-append v a (w ∷ []) k) [
      | inl m ↦ m
      | inr (inl e) ↦ subst (λ u. Has u a) (sym e) h
      | inr (inr m) ↦ absurd m
    ]

-- one that stands in the list already
pub same_again : {A : Type 0} (w : A) (a : List A) → Has w a → HaveSame a (a ++ w ∷ [])
same_again w a h = record { members = λ v. (Has-append_left v a (w ∷ []), again w a h v) }

-- an equal one stands at a place of the list
pub same_at : {A : Type 0} (w v : A) (a : List A) (k : ℕ) → k < length a → v ≡ get_or a k v → v ≡ w → HaveSame a (a ++ w ∷ [])
same_at w v a k h e t = same_again w a (subst (λ u. Has u a) t (has_from_contains v a k h (sym e)))

-- what is left behind both
pub same_step : {A : Type 0} {now seen left all : List A} (rest : List A) → HaveSame now seen → HaveSame left all → left ≡ seen ++ rest → HaveSame (now ++ rest) all
same_step rest s t e = same_trans (same_before rest s) (same_trans (same_equal (sym e)) t)

-- one list behind, and then another
pub same_twice : {A : Type 0} {first second : List A} (old xs ys : List A) → HaveSame first (old ++ xs) → HaveSame second (first ++ ys) → HaveSame second (old ++ (xs ++ ys))
same_twice old xs ys s t = same_trans t (same_trans (same_before ys s) (same_equal (append_assoc old xs ys)))
