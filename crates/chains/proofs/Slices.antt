-- Slices of a list that grow by one.
use Rattle.std.proofs.Common.{◌≡◌, ℕ, zero, suc, ◌+◌, ◌-◌, ◌≤◌, List, [], ◌∷◌, ◌++◌, take, drop, slice_get, slice_range, Some, sym, ap, ◌∙◌, refl, arith}

module _ {A : Type 0} where
  take_more : (m : List A) (k : ℕ) (p : A) → slice_get m k ≡ Some p → take (suc k) m ≡ take k m ++ (p ∷ [])
  take_more [] k p e = absurd cc
  take_more (x ∷ m) zero p e = let h : x ≡ p = cc in ap (λ w. w ∷ []) h
  take_more (x ∷ m) (suc k) p e = ap (λ w. x ∷ w) (take_more m k p e)

  get_drop : (l : List A) (b k : ℕ) → slice_get (drop b l) k ≡ slice_get l (b + k)
  get_drop l zero k = ap (slice_get l) (let e : k ≡ zero + k = omega arith in e)
  get_drop [] (suc b) k = refl
  get_drop (x ∷ l) (suc b) k =
      let e : suc b + k ≡ suc (b + k) = omega arith in
      get_drop l b k ∙ sym (ap (slice_get (x ∷ l)) e)

  -- a slice of one more
  pub range_more : (l : List A) (b i : ℕ) (p : A) → b ≤ i → slice_get l i ≡ Some p → slice_range l b (i + 1) ≡ slice_range l b i ++ (p ∷ [])
  range_more l b i p h e =
      let n : (i + 1) - b ≡ suc (i - b) = omega arith in
      let m : b + (i - b) ≡ i = omega arith in
      ap (λ k. take k (drop b l)) n ∙ take_more (drop b l) (i - b) p (get_drop l b (i - b) ∙ ap (slice_get l) m ∙ e)

  pub range_one : (l : List A) (i : ℕ) (p : A) → slice_get l i ≡ Some p → slice_range l i (i + 1) ≡ p ∷ []
  range_one l i p e =
      let n : i ≤ i = omega arith in
      let m : i - i ≡ 0 = omega arith in
      range_more l i i p n e ∙ ap (λ k. take k (drop i l) ++ (p ∷ [])) m
