-- What is left of positions behind a used arc along which they go on.
use Rattle.std.proofs.Common.{◌≡◌, ◌≢◌, ℕ, zero, suc, ◌≤◌, ◌-◌, List, [], ◌∷◌, drop, take, length, unwrap_or, Option, Some, None, refl, sym, ap, ◌∙◌, subst, arith}
use Rattle.std.proofs.lemmas.List.{take-append-drop}
use Rattle.grid.specs.declared.pos.Pos.{Pos}
use Rattle.theory.specs.ArcNumbers.{ArcRef, StitchFrom, StitchTo, along}
use Rattle.theory.specs.Lists.{last_of}
use Rattle.topo.specs.Walked.{run_of}
use Rattle.normalize.specs.Pieces.{StitchOn}

drop_last : (m : ℕ) (x : Pos) (r : List Pos) → m ≤ length r → drop m (x ∷ r) ≡ last_of x (take m r) ∷ drop m r
drop_last zero x r h = refl
drop_last (suc m) x [] h = absurd (omega (arith, h))
drop_last (suc m) x (y ∷ r) h = drop_last m y r (omega (arith, h))

take_all : {A : Type 0} (l : List A) → take (length l) l ≡ l
take_all [] = refl
take_all (x ∷ l) = ap (λ w. x ∷ w) (take_all l)

take_none : (A : Type 0) (n : ℕ) → take {A = A} n [] ≡ []
take_none A zero = refl
take_none A (suc n) = refl

all_left : {A : Type 0} (m : ℕ) (l : List A) → take (length l - m) (drop m l) ≡ drop m l
all_left zero l = let k : length l - 0 ≡ length l = omega arith in ap (λ n. take n l) k ∙ take_all l
all_left {A} (suc m) [] = take_none A (length {A = A} [] - suc m)
all_left (suc m) (x ∷ l) = let k : length (x ∷ l) - suc m ≡ length l - m = omega arith in ap (λ n. take n (drop m l)) k ∙ all_left m l

there : (o : Option (List Pos)) (x : Pos) (q : List Pos) → unwrap_or o [] ≡ x ∷ q → o ≡ Some (x ∷ q)
there None x q e = absurd cc
there (Some c) x q e = ap Some e

module _ (table : List (List Pos)) (used : ArcRef) where
  step : (m : ℕ) (left : List Pos) → suc m ≤ length left → run_of table used ≡ take (suc m) left → (more : List ArcRef) → StitchOn table more (drop m left) → StitchOn table (used ∷ more) left
  step m [] h e more k = absurd (omega (arith, h))
  step m (x ∷ r) h e more k =
      let n : m ≤ length r = omega (arith, h) in (
        take m r,
        drop m r,
        there (along table used) x (take m r) e,
        sym (take-append-drop m r),
        subst (λ w. StitchOn table more w) (drop_last m x r n) k,
      )

  pub behind_arc : (left run : List Pos) (n : ℕ) → run ≡ run_of table used → n ≡ length run → n ≢ 0 → n ≤ length left → run ≡ take n left → (more : List ArcRef) →
      StitchOn table more (take (length left - (n - 1)) (drop (n - 1) left)) → StitchOn table (used ∷ more) left
  behind_arc left run zero is long some within along more h = absurd (some refl)
  behind_arc left run (suc m) is long some within along more h =
      let k : suc m - 1 ≡ m = omega arith in
      step m left within (sym is ∙ along) more
      (subst (λ w. StitchOn table more w) (all_left m left) (subst (λ i. StitchOn table more (take (length left - i) (drop i left))) k h))

-- all is gone along
pub all_gone : (table : List (List Pos)) (used others : List ArcRef) (positions left : List Pos) → (StitchOn table others left → StitchOn table used positions) →
    others ≡ [] → length left ≡ 1 → used ≢ [] → StitchTo table used positions
all_gone table [] others positions left h none one some = absurd (some refl)
all_gone table (a ∷ used) others [] left h none one some = absurd (h (at_end left one))
  where
    at_end : (left : List Pos) → length left ≡ 1 → StitchOn table others left
    at_end [] e = absurd cc
    at_end (x ∷ []) e = subst (λ w. StitchFrom table x w []) (sym none) refl
    at_end (x ∷ (y ∷ r)) e = absurd (omega (arith, e))
all_gone table (a ∷ used) others (p ∷ positions) left h none one some = h (at_end left one)
  where
    at_end : (left : List Pos) → length left ≡ 1 → StitchOn table others left
    at_end [] e = absurd cc
    at_end (x ∷ []) e = subst (λ w. StitchFrom table x w []) (sym none) refl
    at_end (x ∷ (y ∷ r)) e = absurd (omega (arith, e))
