-- Where a list stands among others.
use Rattle.std.proofs.Common.{◌≡◌, ℕ, suc, Bool, true, false, cond, not, ◌||◌, List, [], ◌∷◌, length, inl, inr, refl, sym, ap, ◌∙◌, subst, Some, None, slice_get, nat_lt, reverse, option_map, arith, ◌<◌, ◌+◌}
use borrow.Author.Tests.{ltb-true, ltb-false}
use Rattle.std.specs.List.{list_any, position, position_or_len}
use Rattle.grid.specs.declared.pos.Pos.{Pos}
use Rattle.theory.specs.Lists.{Has}
use Rattle.lines.specs.Pairs.{position_eq}
use Rattle.arcs.specs.Pieces.{used}
use Rattle.arcs.specs.declared.piece.Piece.{Piece}
use Rattle.arcs.specs.Table.{same_list}
use Rattle.lines.proofs.Positions.{position_true, position_refl, both_true, both_intro}
use Rattle.theory.specs.ArcNumbers.{along}

pub list_true : (xs ys : List Pos) → same_list xs ys ≡ true → xs ≡ ys
list_true [] [] e = refl
list_true [] (y ∷ ys) e = absurd cc
list_true (x ∷ xs) [] e = absurd cc
list_true (x ∷ xs) (y ∷ ys) e =
    let t = both_true (position_eq x y) (same_list xs ys) e in
    let h : x ≡ y = position_true x y t.0 in
    let ih : xs ≡ ys = list_true xs ys t.1 in λ i. h i ∷ ih i

pub list_refl : (xs : List Pos) → same_list xs xs ≡ true
list_refl [] = refl
list_refl (x ∷ xs) = both_intro (position_eq x x) (same_list xs xs) (position_refl x) (list_refl xs)

pub any_has : (q : List Pos) (l : List (List Pos)) → list_any (same_list q) l ≡ true → Has q l
any_has q [] e = absurd cc
any_has q (x ∷ l) e = go (same_list q x) refl e (any_has q l)
  where
    go : (b : Bool) → same_list q x ≡ b → (b || list_any (same_list q) l) ≡ true → (list_any (same_list q) l ≡ true → Has q l) → Has q (x ∷ l)
    go true p f ih = inl (list_true q x p)
    go false p f ih = inr (ih f)

pub has_any : (q : List Pos) (l : List (List Pos)) → Has q l → list_any (same_list q) l ≡ true
has_any q [] h = absurd h
has_any q (x ∷ l) (inl e) = rw (subst (λ w. same_list q w ≡ true) e (list_refl q)) refl
has_any q (x ∷ l) (inr h) = go (same_list q x) (has_any q l h)
  where
    go : (b : Bool) → list_any (same_list q) l ≡ true → (b || list_any (same_list q) l) ≡ true
    go true e = refl
    go false e = e

-- what stands at the place that a search finds
pub place_is : (q : List Pos) (l : List (List Pos)) → position_or_len (same_list q) l < length l →
    slice_get l (position_or_len (same_list q) l) ≡ Some q
place_is q [] h = absurd (omega arith)
place_is q (x ∷ l) h = go (same_list q x) refl h (place_is q l)
  where
    go : (b : Bool) → same_list q x ≡ b → cond (not b) (1 + position_or_len (same_list q) l) 0 < suc (length l) →
        (position_or_len (same_list q) l < length l → slice_get l (position_or_len (same_list q) l) ≡ Some q) →
        slice_get (x ∷ l) (cond (not b) (1 + position_or_len (same_list q) l) 0) ≡ Some q
    go true e k ih = ap Some (sym (list_true q x e))
    go false e k ih =
        let n : suc (position_or_len (same_list q) l) ≡ 1 + position_or_len (same_list q) l = omega arith in
        subst (λ w. slice_get (x ∷ l) w ≡ Some q) n (ih (omega (arith, k)))

pub found_at : (q : List Pos) (l : List (List Pos)) (i : ℕ) → Some i ≡ position (same_list q) l → slice_get l i ≡ Some q
found_at q l i e = go (nat_lt (position_or_len (same_list q) l) (length l)) refl e
  where
    go : (b : Bool) → nat_lt (position_or_len (same_list q) l) (length l) ≡ b → Some i ≡ cond b (Some (position_or_len (same_list q) l)) None → slice_get l i ≡ Some q
    go true h k = let n : i ≡ position_or_len (same_list q) l = cc in subst (λ w. slice_get l w ≡ Some q) (sym n) (place_is q l (ltb-true (position_or_len (same_list q) l) (length l) h))
    go false h k = absurd cc

pub along_found : (l : List (List Pos)) (p : Piece) (q : List Pos) (i : ℕ) (r : Bool) → Some i ≡ position (same_list q) l → q ≡ p.chain → r ≡ p.reversed →
    along l (record { arc = i; reversed = r }) ≡ Some (used p)
along_found l p q i r e f h =
    ap (option_map (λ c. cond r (reverse c) c)) (found_at q l i e) ∙ (λ j. Some (cond (h j) (reverse (f j)) (f j)))

-- a member's place is found
pub found_index : (q : List Pos) (l : List (List Pos)) → Has q l → Some (position_or_len (same_list q) l) ≡ position (same_list q) l
found_index q l h = go (nat_lt (position_or_len (same_list q) l) (length l)) refl
  where
    within : (l : List (List Pos)) → Has q l → position_or_len (same_list q) l < length l
    within [] k = absurd k
    within (x ∷ l) (inl e) = rw (subst (λ w. same_list q w ≡ true) e (list_refl q)) (omega arith)
    within (x ∷ l) (inr k) = step (same_list q x) l (within l k)
      where
        step : (b : Bool) (l : List (List Pos)) → position_or_len (same_list q) l < length l → cond (not b) (1 + position_or_len (same_list q) l) 0 < suc (length l)
        step true l h = omega arith
        step false l h = omega (arith, h)

    go : (b : Bool) → nat_lt (position_or_len (same_list q) l) (length l) ≡ b → Some (position_or_len (same_list q) l) ≡ cond b (Some (position_or_len (same_list q) l)) None
    go true e = refl
    go false e = let m = ltb-false (position_or_len (same_list q) l) (length l) e in let k = within l h in absurd (omega arith)

-- and stands there
pub index_of_member : (q : List Pos) (l : List (List Pos)) → Has q l → slice_get l (position_or_len (same_list q) l) ≡ Some q
index_of_member q l h = found_at q l (position_or_len (same_list q) l) (found_index q l h)

pub not_found : (q : List Pos) (l : List (List Pos)) → None ≡ position (same_list q) l → ¬ Has q l
not_found q l e h = let k : None ≡ Some (position_or_len (same_list q) l) = e ∙ sym (found_index q l h) in absurd cc
