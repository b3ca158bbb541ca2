-- Loops over arcs, by the numbers of those that were looked at.
use Rattle.std.proofs.Common.{◌≡◌, ◌<◌, ◌≤◌, ◌+◌, ℕ, zero, suc, List, [], ◌∷◌, ◌++◌, drop, length, slice_get, Some, map, ◌⊎◌, inl, inr, refl, sym, ap, ◌∙◌, subst, append_assoc, arith}
use Rattle.grid.specs.declared.pos.Pos.{Pos}
use Rattle.theory.specs.ArcNumbers.{ArcRef, StitchTo}
use Rattle.theory.specs.Lists.{Pairwise}
use Rattle.theory.specs.Refinement.{pieces_at}
use Rattle.theory.proofs.Lists.{append_nil}
use Rattle.normalize.specs.Pieces.{AreJoinedOf}

-- what stands at a place, and what is left from it on
pub at_place : {A : Type 0} (n : ℕ) (l : List A) → n < length l → (x : A) × (slice_get l n ≡ Some x) × (drop n l ≡ x ∷ drop (n + 1) l)
at_place n [] h = absurd (omega (arith, h))
at_place zero (x ∷ l) h = (x, refl, refl)
at_place (suc n) (x ∷ l) h =
    let t = at_place n l (omega (arith, h)) in
    let k : suc n + 1 ≡ suc (n + 1) = omega arith in
    (t.0, t.1, t.2 ∙ ap (λ m. t.0 ∷ drop m (x ∷ l)) (sym k))

pub none_left : {A : Type 0} (n : ℕ) (l : List A) → length l ≤ n → drop n l ≡ []
none_left zero [] h = refl
none_left zero (x ∷ l) h = absurd (omega (arith, h))
none_left (suc n) [] h = refl
none_left (suc n) (x ∷ l) h = none_left n l (omega (arith, h))

pub within : {A : Type 0} (l : List A) (i : ℕ) (x : A) → slice_get l i ≡ Some x → i < length l
within [] i x e = absurd cc
within (y ∷ l) zero x e = omega arith
within (y ∷ l) (suc i) x e = let k = within l i x e in omega (arith, k)

-- what is made of the members of a list, one after the other
module _ {A B : Type 0} (R : A → B → Type 0) (xs : List A) where
  -- with what is made of the members from a place on, what was made so far is made of all
  abbrev pub MadeSoFar : List B → ℕ → Type 0
  MadeSoFar made n = (rest : List B) → Pairwise R (drop n xs) rest → Pairwise R xs (made ++ rest)

  pub made_on : (made now : List B) (n : ℕ) (x : A) (y : B) → drop n xs ≡ x ∷ drop (n + 1) xs → now ≡ made ++ (y ∷ []) → R x y → MadeSoFar made n → MadeSoFar now (n + 1)
  made_on made now n x y left e is before rest k =
      subst (Pairwise R xs) (sym (append_assoc made (y ∷ []) rest) ∙ ap (λ w. w ++ rest) (sym e)) (before (y ∷ rest) (subst (λ w. Pairwise R w (y ∷ rest)) (sym left) (is, k)))

  pub made_all : (made : List B) (n : ℕ) → length xs ≤ n → MadeSoFar made n → Pairwise R xs made
  made_all made n h so = subst (Pairwise R xs) (append_nil made) (so [] (subst (λ w. Pairwise R w []) (sym (none_left n xs h)) tt))

-- what is behind a place, and what stands there
pub behind : {A : Type 0} (n : ℕ) (l r : List A) (x : A) → drop n l ≡ x ∷ r → (drop (n + 1) l ≡ r) × (slice_get l n ≡ Some x)
behind zero [] r x e = absurd cc
behind zero (y ∷ l) r x e = let k : l ≡ r = cc in let m : y ≡ x = cc in (k, ap Some m)
behind (suc n) [] r x e = absurd cc
behind (suc n) (y ∷ l) r x e = let k : suc n + 1 ≡ suc (n + 1) = omega arith in let t = behind n l r x e in (ap (λ m. drop m (y ∷ l)) k ∙ t.0, t.1)

-- the pieces of each arc before a number stitch to it
abbrev pub StitchBefore : List (List Pos) → List (List Pos) → List (List ArcRef) → ℕ → Type 0
StitchBefore table arcs pieces n = (i : ℕ) (c : List Pos) → i < n → slice_get arcs i ≡ Some c → StitchTo table (pieces_at pieces i) c

pub last_or : (i n : ℕ) → i < n + 1 → (i < n) ⊎ (i ≡ n)
last_or zero zero h = inr refl
last_or zero (suc n) h = inl (omega arith)
last_or (suc i) zero h = absurd (omega (arith, h))
last_or (suc i) (suc n) h = elim (last_or i n (omega (arith, h))) [ inl k ↦ inl (omega (arith, k)) | inr e ↦ inr (ap suc e) ]

pub stitch_on : (table arcs : List (List Pos)) (pieces : List (List ArcRef)) (n : ℕ) (x : List Pos) → slice_get arcs n ≡ Some x → StitchTo table (pieces_at pieces n) x →
    StitchBefore table arcs pieces n → StitchBefore table arcs pieces (n + 1)
stitch_on table arcs pieces n x there is before i c h e =
    elim (last_or i n h) [
      | inl k ↦ before i c k e
      | inr k ↦
          let both : Some x ≡ Some c = sym there ∙ subst (λ j. slice_get arcs j ≡ Some c) k e in
          let same : x ≡ c = cc in
          subst (λ j. StitchTo table (pieces_at pieces j) c) (sym k) (subst (StitchTo table (pieces_at pieces n)) same is)
    ]

pub stitch_all : (table arcs : List (List Pos)) (pieces : List (List ArcRef)) (n : ℕ) → length arcs ≤ n → StitchBefore table arcs pieces n → AreJoinedOf table arcs pieces
stitch_all table arcs pieces n h so i c e = let k = within arcs i c e in so i c (omega (arith, h, k)) e
