-- Lists pair by pair, and a list that is made one by one.
use Rattle.std.proofs.Common.{◌≡◌, ◌≤◌, ◌<◌, ◌+◌, ℕ, zero, suc, List, [], ◌∷◌, ◌++◌, length, get_or, drop, inl, inr, refl, sym, ap, ◌∙◌, subst, append_assoc, append-nil, arith}
use Rattle.std.specs.Prelude.{map as map_list}
use Rattle.theory.specs.Lists.{Has, Pairwise}

pub Pairwise-weaker : {A B : Type 0} (R S : A → B → Type 0) → ((x : A) (y : B) → R x y → S x y) → (xs : List A) (ys : List B) → Pairwise R xs ys → Pairwise S xs ys
Pairwise-weaker R S f [] [] h = tt
Pairwise-weaker R S f [] (y ∷ ys) h = absurd h
Pairwise-weaker R S f (x ∷ xs) [] h = absurd h
Pairwise-weaker R S f (x ∷ xs) (y ∷ ys) h = (f x y h.0, Pairwise-weaker R S f xs ys h.1)

-- what f and g give of paired members, where they give the same of each pair
pub Pairwise-same : {A B C : Type 0} (R : A → B → Type 0) (f : A → C) (g : B → C) → ((x : A) (y : B) → R x y → f x ≡ g y) →
    (xs : List A) (ys : List B) → Pairwise R xs ys → map_list f xs ≡ map_list g ys
Pairwise-same R f g e [] [] h = refl
Pairwise-same R f g e [] (y ∷ ys) h = absurd h
Pairwise-same R f g e (x ∷ xs) [] h = absurd h
Pairwise-same R f g e (x ∷ xs) (y ∷ ys) h =
    let a = e x y h.0 in
    let b = Pairwise-same R f g e xs ys h.1 in
    λ i. a i ∷ b i

-- pairs of what f gives of the members
pub Pairwise-mapped : {A B A' B' : Type 0} (R : A' → B' → Type 0) (f : A → A') (g : B → B') (xs : List A) (ys : List B) →
    Pairwise R (map_list f xs) (map_list g ys) → Pairwise (λ x y. R (f x) (g y)) xs ys
Pairwise-mapped R f g [] [] h = tt
Pairwise-mapped R f g [] (y ∷ ys) h = absurd h
Pairwise-mapped R f g (x ∷ xs) [] h = absurd h
Pairwise-mapped R f g (x ∷ xs) (y ∷ ys) h = (h.0, Pairwise-mapped R f g xs ys h.1)

module _ {A B : Type 0} (R : A → B → Type 0) where
  pub pair_of : (xs : List A) (ys : List B) (y : B) → Pairwise R xs ys → Has y ys → (x : A) × Has x xs × R x y
  pair_of [] [] y h k = absurd k
  pair_of [] (z ∷ ys) y h k = absurd h
  pair_of (x ∷ xs) [] y h k = absurd h
  pair_of (x ∷ xs) (z ∷ ys) y h (inl e) = (x, inl refl, subst (R x) (sym e) h.0)
  pair_of (x ∷ xs) (z ∷ ys) y h (inr k) = let t = pair_of xs ys y h.1 k in (t.0, inr t.1, t.2)

  -- the pair at a place, and what is left behind it
  pub pair_at : (xs : List A) (ys : List B) (i : ℕ) (y : B) → Pairwise R xs ys → i < length ys → y ≡ get_or ys i y →
      (x : A) × (drop i xs ≡ x ∷ drop (i + 1) xs) × R x y
  pair_at [] [] i y h k e = absurd (omega arith)
  pair_at [] (z ∷ ys) i y h k e = absurd h
  pair_at (x ∷ xs) [] i y h k e = absurd h
  pair_at (x ∷ xs) (z ∷ ys) zero y h k e = (x, refl, subst (R x) (sym e) h.0)
  pair_at (x ∷ xs) (z ∷ ys) (suc i) y h k e =
      let n : suc (i + 1) ≡ suc i + 1 = omega arith in
      subst (λ j. (w : A) × (drop i xs ≡ w ∷ drop j (x ∷ xs)) × R w y) n (pair_at xs ys i y h.1 (omega arith) e)

  pub none_behind : (xs : List A) (ys : List B) (i : ℕ) → Pairwise R xs ys → length ys ≤ i → drop i xs ≡ []
  none_behind [] [] zero h k = refl
  none_behind [] [] (suc i) h k = refl
  none_behind [] (y ∷ ys) i h k = absurd h
  none_behind (x ∷ xs) [] i h k = absurd h
  none_behind (x ∷ xs) (y ∷ ys) zero h k = absurd (omega arith)
  none_behind (x ∷ xs) (y ∷ ys) (suc i) h k = none_behind xs ys i h.1 (omega arith)

  -- one more is made
  pub one_more : (xs : List A) (ys : List B) (made more : List A) (new : A) (i : ℕ) (y : B) → Pairwise R xs ys → i < length ys → y ≡ get_or ys i y →
      ((x : A) → R x y → new ≡ x) → made ++ drop i xs ≡ xs → more ≡ made ++ (new ∷ []) → more ++ drop (i + 1) xs ≡ xs
  one_more xs ys made more new i y h k e f left is =
      let (x, parted, r) = pair_at xs ys i y h k e in
      (λ j. is j ++ drop (i + 1) xs) ∙ append_assoc made (new ∷ []) (drop (i + 1) xs)
      ∙ (λ j. made ++ (f x r j ∷ drop (i + 1) xs)) ∙ ap (λ w. made ++ w) (sym parted) ∙ left

  -- all are made
  pub all_made : (xs : List A) (ys : List B) (made : List A) (i : ℕ) → Pairwise R xs ys → length ys ≤ i → made ++ drop i xs ≡ xs → made ≡ xs
  all_made xs ys made i h k left = sym (append-nil made) ∙ ap (λ w. made ++ w) (sym (none_behind xs ys i h k)) ∙ left
