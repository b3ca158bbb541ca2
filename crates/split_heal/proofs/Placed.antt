-- Lists put at the numbers of their arcs.
use Rattle.std.proofs.Common.{◌≡◌, ℕ, zero, suc, List, [], ◌∷◌, length, map, replicate, slice_get, slice_set, ◌⊎◌, inl, inr, refl, sym, ap, ◌∙◌, arith, Some}
use Rattle.std.proofs.lemmas.List.{length-set}
use Rattle.std.specs.Cmp.Lexicographic.{lists_total}
use Rattle.std.specs.FinMap.{slice_cmp-IsAntisymmetric}
use Rattle.grid.specs.declared.pos.Pos.{Pos}
use Rattle.lines.specs.Positions.{position_same, position_total}
use Rattle.lines.specs.Turned.{list_cmp}
use Rattle.theory.specs.ArcNumbers.{ArcRef}
use Rattle.theory.specs.Arcs.{Ascends}
use Rattle.theory.specs.Lists.{Has, Pairwise}
use Rattle.theory.proofs.Ascending.{get_once, less_self}
use Rattle.arcs.specs.Table.{located, number_in}
use Rattle.arcs.specs.declared.piece.Piece.{Piece}
use Rattle.arcs.proofs.Places.{index_of_member}
use Rattle.split_heal.specs.HealedArcs.{put_all}
use Rattle.split_heal.proofs.WalkedRuns.{number_dec}

set_is : {A : Type 0} (l : List A) (n : ℕ) (x y : A) → slice_get (slice_set l n x) n ≡ Some y → y ≡ x
set_is [] n x y e = absurd cc
set_is (z ∷ l) zero x y e = let f : Some x ≡ Some y = e in cc
set_is (z ∷ l) (suc n) x y e = set_is l n x y e

set_far : {A : Type 0} (l : List A) (n i : ℕ) (x : A) → ¬ (i ≡ n) → slice_get (slice_set l n x) i ≡ slice_get l i
set_far [] n i x d = refl
set_far (z ∷ l) zero zero x d = absurd (d refl)
set_far (z ∷ l) zero (suc i) x d = refl
set_far (z ∷ l) (suc n) zero x d = refl
set_far (z ∷ l) (suc n) (suc i) x d = set_far l n i x (λ e. d (ap suc e))

pub length_put : (refs : List ArcRef) (lists made : List (List ArcRef)) → length (put_all refs lists made) ≡ length made
length_put [] lists made = refl
length_put (a ∷ refs) [] made = refl
length_put (a ∷ refs) (l ∷ lists) made = length_put refs lists (slice_set made a.arc l) ∙ length-set made a.arc l

pub length_same : {A : Type 0} (n : ℕ) (x : A) → length (replicate n x) ≡ n
length_same zero x = refl
length_same (suc n) x = ap suc (length_same n x)

pub pairwise_from : {A B : Type 0} (R : A → B → Type 0) (xs : List A) (ys : List B) → length ys ≡ length xs →
    ((i : ℕ) (x : A) (y : B) → slice_get xs i ≡ Some x → slice_get ys i ≡ Some y → R x y) → Pairwise R xs ys
pairwise_from R [] [] n f = tt
pairwise_from R [] (y ∷ ys) n f = absurd (omega (arith, n))
pairwise_from R (x ∷ xs) [] n f = absurd (omega (arith, n))
pairwise_from R (x ∷ xs) (y ∷ ys) n f = (f zero x y refl refl, pairwise_from R xs ys (omega (arith, n)) (λ i. f (suc i)))

module _ (runs : List (List ArcRef)) (piece : List ArcRef → Piece) (list : List ArcRef → List ArcRef) (arcs : List (List Pos)) (up : Ascends list_cmp arcs)
    (there : (r : List ArcRef) → Has r runs → Has (piece r).chain arcs) where
  -- the list of a run that has this chain
  abbrev pub Made : List Pos → List ArcRef → Type 0
  Made c l = (r : List ArcRef) × Has r runs × (c ≡ (piece r).chain) × (l ≡ list r)

  abbrev Pending : List Pos → List (List ArcRef) → Type 0
  Pending c rest = (r : List ArcRef) × Has r rest × (c ≡ (piece r).chain)

  abbrev Sofar : List (List ArcRef) → List (List ArcRef) → Type 0
  Sofar rest made = (i : ℕ) (c : List Pos) (l : List ArcRef) → slice_get arcs i ≡ Some c → slice_get made i ≡ Some l → Made c l ⊎ Pending c rest

  pub numbered : (r : List ArcRef) → Has r runs → slice_get arcs (number_in arcs (piece r)) ≡ Some (piece r).chain
  numbered r h = index_of_member (piece r).chain arcs (there r h)

  put : (rest made : List (List ArcRef)) → ((r : List ArcRef) → Has r rest → Has r runs) → Sofar rest made → Sofar [] (put_all (map (located arcs) (map piece rest)) (map list rest) made)
  put [] made sub f = f
  put (r ∷ rest) made sub f = put rest (slice_set made (number_in arcs (piece r)) (list r)) (λ q h. sub q (inr h)) step
    where
      here : slice_get arcs (number_in arcs (piece r)) ≡ Some (piece r).chain
      here = numbered r (sub r (inl refl))

      step : Sofar rest (slice_set made (number_in arcs (piece r)) (list r))
      step i c l e k = elim (number_dec i (number_in arcs (piece r))) [
        | inl same ↦
            let s : Some c ≡ Some (piece r).chain = sym e ∙ ap (slice_get arcs) same ∙ here in
            let is : c ≡ (piece r).chain = cc in
            inl (r, sub r (inl refl), is, set_is made (number_in arcs (piece r)) (list r) l (ap (slice_get (slice_set made (number_in arcs (piece r)) (list r))) (sym same) ∙ k))
        | inr far ↦ elim (f i c l e (sym (set_far made (number_in arcs (piece r)) i (list r) far) ∙ k)) [
          | inl made ↦ inl made
          | inr (q, inr h, is) ↦ inr (q, h, is)
          | inr (q, inl h, is) ↦
              let other : slice_get arcs i ≡ Some (piece r).chain = e ∙ ap Some (is ∙ ap (λ w. (piece w).chain) h) in
              absurd (far (get_once list_cmp (less_self list_cmp (lists_total position_total) (slice_cmp-IsAntisymmetric position_same)) arcs i (number_in arcs (piece r)) (piece r).chain up other here))
        ]
      ]

  -- each arc has the list of a run that has its chain
  pub placed : ((c : List Pos) → Has c arcs → (r : List ArcRef) × Has r runs × (c ≡ (piece r).chain)) → ((i : ℕ) (c : List Pos) → slice_get arcs i ≡ Some c → Has c arcs) →
      (made : List (List ArcRef)) → length made ≡ length arcs → Pairwise Made arcs (put_all (map (located arcs) (map piece runs)) (map list runs) made)
  placed from has made n =
      pairwise_from Made arcs (put_all (map (located arcs) (map piece runs)) (map list runs) made) (length_put (map (located arcs) (map piece runs)) (map list runs) made ∙ n)
      (λ i c l e f. elim (put runs made (λ r h. h) (λ j d k p q. inr (from d (has j d p))) i c l e f) [ inl h ↦ h | inr (r, z, q) ↦ absurd z ])
