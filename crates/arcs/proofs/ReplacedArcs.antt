-- The pieces that take the place of a used arc, as code adds them to a list.
use Rattle.std.proofs.Common.{◌≡◌, ℕ, zero, suc, Bool, true, false, cond, List, [], ◌∷◌, ◌++◌, refl, sym, ap, ◌∙◌, Some, None, slice_get}
use Rattle.theory.specs.ArcNumbers.{ArcRef, backwards}
use Rattle.theory.specs.Refinement.{pieces_at, pieces_of_used}
use Rattle.theory.proofs.Lists.{append_nil}

-- what is read at a place
pub at_some : (ps : List (List ArcRef)) (i : ℕ) (p : List ArcRef) → Some p ≡ slice_get ps i → pieces_at ps i ≡ p
at_some [] i p e = absurd cc
at_some (q ∷ ps) zero p e = let k : Some p ≡ Some q = e in cc
at_some (q ∷ ps) (suc i) p e = at_some ps i p e

pub at_none : (ps : List (List ArcRef)) (i : ℕ) → None ≡ slice_get ps i → pieces_at ps i ≡ []
at_none [] i e = refl
at_none (q ∷ ps) zero e = let k : None ≡ Some q = e in absurd cc
at_none (q ∷ ps) (suc i) e = at_none ps i e

-- a used arc that is none has no pieces
pub none_used : (ps : List (List ArcRef)) (a : ArcRef) (before : List ArcRef) → None ≡ slice_get ps a.arc → before ≡ before ++ pieces_of_used ps a
none_used ps a before e =
    sym (append_nil before) ∙ ap (λ w. before ++ w) (go a.reversed ∙ ap (λ w. cond a.reversed (backwards w) w) (sym (at_none ps a.arc e)))
  where
    go : (b : Bool) → [] ≡ cond b (backwards []) []
    go true = refl
    go false = refl

-- what the code adds for a used arc
pub used_by_code : (ps : List (List ArcRef)) (a b : ArcRef) (p : List ArcRef) → Some p ≡ slice_get ps b.arc → b ≡ a → cond b.reversed (backwards p) p ≡ pieces_of_used ps a
used_by_code ps a b p e f = ap (λ w. cond b.reversed (backwards w) w) (sym (at_some ps b.arc p e)) ∙ ap (pieces_of_used ps) f
