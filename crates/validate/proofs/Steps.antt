-- What holds of all arcs of a table, and what is told of one arc.
use Rattle.std.proofs.Common.{◌≡◌, ◌-◌, Bool, true, false, cond, ◌&&◌, List, [], ◌∷◌, ◌++◌, length, inl, inr, refl, sym, ap, ◌∙◌, arith, Some, slice_get}
use Rattle.std.specs.List.{list_all}
use Rattle.std.proofs.lemmas.List.Folds.{list_all-map}
use Rattle.grid.specs.declared.pos.Pos.{Pos}
use Rattle.theory.specs.Lists.{Has, last_of}
use Rattle.theory.specs.Refinement.{unclosed}
use Rattle.theory.specs.Validity.{inner_of}
use Rattle.theory.proofs.Lists.{front-snoc}
use Rattle.arcs.specs.Among.{among}
use Rattle.arcs.proofs.EndsAlong.{last_get}
use Rattle.arcs.specs.Arcs.{Arcs}
use Rattle.arcs.specs.Table.{is_loop, with_loops}
use Rattle.chains.proofs.TablesAsMap.{unclosed_rest}
use Rattle.validate.specs.EndTests.{both_are, is_as}
use Rattle.validate.specs.declared.end_tests.EndsHaveToBe.{EndsHaveToBe}

pub all_has : {A : Type 0} (f : A → Bool) (l : List A) → list_all f l ≡ true → (x : A) → Has x l → f x ≡ true
all_has f [] e x h = absurd h
all_has f (y ∷ l) e x h = go (f y) refl e (λ d k. all_has f l d x k) h
  where
    go : (b : Bool) → f y ≡ b → (b && list_all f l) ≡ true → (list_all f l ≡ true → Has x l → f x ≡ true) → Has x (y ∷ l) → f x ≡ true
    go true p e ih (inl k) = ap f k ∙ p
    go true p e ih (inr k) = ih e k
    go false p e ih k = absurd cc

pub all_from : {A : Type 0} (f : A → Bool) (l : List A) → ((x : A) → Has x l → f x ≡ true) → list_all f l ≡ true
all_from f [] h = refl
all_from f (y ∷ l) h = ap (λ w. w && list_all f l) (h y (inl refl)) ∙ all_from f l (λ x k. h x (inr k))

-- of the arcs of a table, each with whether it is a free loop
module _ (f : List Pos × Bool → Bool) (t : Arcs) where
  pub all_has_with : list_all f (with_loops t) ≡ true → (c : List Pos) → Has c t.arcs → f (c, is_loop t.loops c) ≡ true
  all_has_with e = all_has (λ c. f (c, is_loop t.loops c)) t.arcs (sym (list_all-map f (λ c. (c, is_loop t.loops c)) t.arcs) ∙ e)

  pub all_from_with : ((c : List Pos) → Has c t.arcs → f (c, is_loop t.loops c) ≡ true) → list_all f (with_loops t) ≡ true
  all_from_with h = list_all-map f (λ c. (c, is_loop t.loops c)) t.arcs ∙ all_from (λ c. f (c, is_loop t.loops c)) t.arcs h

-- the vertices inside a free loop, and inside another arc
pub free_inside : (b : Bool) (c front : List Pos) (x : Pos) → b ≡ true → c ≡ front ++ (x ∷ []) → front ≡ cond b (unclosed c) (inner_of c)
free_inside b c front x t e = sym (ap (λ w. cond w (unclosed c) (inner_of c)) t ∙ unclosed_rest c front x e)

inner_front : (y x : Pos) (inner : List Pos) → inner_of (y ∷ (inner ++ (x ∷ []))) ≡ inner
inner_front y x [] = refl
inner_front y x (z ∷ s) = front-snoc z x s

pub open_inside : (b : Bool) (c front inner : List Pos) (x y : Pos) → b ≡ false → c ≡ front ++ (x ∷ []) → front ≡ y ∷ inner → inner ≡ cond b (unclosed c) (inner_of c)
open_inside b c front inner x y t e f =
    sym (ap (λ w. cond w (unclosed c) (inner_of c)) t ∙ ap inner_of (e ∙ ap (λ w. w ++ (x ∷ [])) f) ∙ inner_front y x inner)

-- the ends of a list, as the code has them
pub ends_means : (e : EndsHaveToBe) (sorted l : List Pos) (a b : Pos) → Some a ≡ slice_get l 0 → Some b ≡ slice_get l (length l - 1) →
    both_are e sorted l ≡ (is_as e (among sorted a) && is_as e (among sorted b))
ends_means e sorted [] a b p q = absurd cc
ends_means e sorted (x ∷ l) a b p q =
    let k : length (x ∷ l) - 1 ≡ length l = omega arith in
    let f : a ≡ x = cc in
    let m : Some b ≡ Some (last_of x l) = q ∙ ap (slice_get (x ∷ l)) k ∙ last_get x l in
    let g : b ≡ last_of x l = cc in
    λ i. is_as e (among sorted (sym f i)) && is_as e (among sorted (sym g i))
