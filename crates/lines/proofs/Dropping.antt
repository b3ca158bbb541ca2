-- What is left of a list in a loop over it.
use Rattle.std.proofs.Common.{◌≡◌, ℕ, zero, suc, ◌+◌, ◌<◌, ◌≤◌, List, [], ◌∷◌, drop, slice_get, length, get_or, Some, sym, ap, subst, arith}
use Rattle.std.proofs.lemmas.List.{drop_all}
use Rattle.theory.specs.Lists.{Has}

module _ {A : Type 0} where
  drop_more : (l : List A) (k : ℕ) (p : A) → slice_get l k ≡ Some p → drop k l ≡ p ∷ drop (suc k) l
  drop_more [] k p e = absurd cc
  drop_more (x ∷ l) zero p e = let h : x ≡ p = cc in ap (λ w. w ∷ l) h
  drop_more (x ∷ l) (suc k) p e = drop_more l k p e

  -- an item of a loop
  pub item_at : (l : List A) (i : ℕ) (x : A) → i < length l → x ≡ get_or l i x → slice_get l i ≡ Some x
  item_at [] i x h e = absurd (omega arith)
  item_at (y ∷ l) zero x h e = ap Some (sym e)
  item_at (y ∷ l) (suc i) x h e = item_at l i x (omega (arith, h)) e

  -- what stands at a place comes first among what is left
  pub drop_next : (l : List A) (i : ℕ) (p : A) → slice_get l i ≡ Some p → drop i l ≡ p ∷ drop (i + 1) l
  drop_next l i p e =
      let n : suc i ≡ i + 1 = omega arith in
      subst (λ k. drop i l ≡ p ∷ drop k l) n (drop_more l i p e)

  pub drop_item : (l : List A) (i : ℕ) (x : A) → i < length l → x ≡ get_or l i x → drop i l ≡ x ∷ drop (i + 1) l
  drop_item l i x h e = drop_next l i x (item_at l i x h e)

pub none_left : {A : Type 0} (x : A) (l : List A) (i : ℕ) → length l ≤ i → ¬ Has x (drop i l)
none_left x l i h k = subst (Has x) (drop_all i l h) k
