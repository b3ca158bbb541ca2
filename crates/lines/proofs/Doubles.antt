-- Lists with an element at two places, in order and before they are sorted.
use Rattle.std.proofs.Common.{◌≡◌, ℕ, ◌+◌, ◌≤◌, Bool, true, false, cond, List, [], ◌∷◌, ◌⊎◌, inl, inr, refl, sym, ap, ◌∙◌, subst, arith}
use Rattle.std.specs.List.{sum_by}
use Rattle.std.specs.List.Sorted.{IsPermutation, IsSorted}
use Rattle.std.specs.Cmp.{IsTotalOrder, tied_itself}
use Rattle.std.specs.Ordering.{is_eq}
use Rattle.std.specs.declared.cmp.Ordering.{Ordering}
use Rattle.std.specs.declared.cmp.Ordering.TheVariants.{Less, Equal, Greater}
use Rattle.std.proofs.lemmas.List.Sums.{sum_by-cons}
use Rattle.std.proofs.lemmas.List.Sorted.{sum_by-IsPermutation}
use Rattle.theory.specs.Lists.{Has, Twice}
use Rattle.theory.specs.TopologyFunction.{keep}
use Rattle.theory.proofs.Turning.{keep_has, has_keep}
use Rattle.lines.specs.Neighbours.{equal_from, equal_neighbours}
use Rattle.lines.proofs.SortedLists.{Up, squeezed, up_from_sorted}

-- an element stands at two places
abbrev pub Doubled : {X : Type 0} → List X → Type 0
Doubled [] = ⊥
Doubled (x ∷ l) = Has x l ⊎ Doubled l

pub doubled_twice : {X : Type 0} (l : List X) → Doubled l → (x : X) × Twice x l
doubled_twice [] h = absurd h
doubled_twice (x ∷ l) (inl h) = (x, inl (refl, h))
doubled_twice (x ∷ l) (inr h) = let t = doubled_twice l h in (t.0, inr t.1)

pub twice_doubled : {X : Type 0} (x : X) (l : List X) → Twice x l → Doubled l
twice_doubled x [] h = absurd h
twice_doubled x (y ∷ l) (inl h) = inl (subst (λ w. Has w l) h.0 h.1)
twice_doubled x (y ∷ l) (inr h) = inr (twice_doubled x l h)

-- what stands twice does so among those that are kept, where it is one of them
pub twice_kept : {X : Type 0} (f : X → Bool) (l : List X) (x : X) → f x ≡ true → Twice x l → Twice x (keep f l)
twice_kept f [] x e h = absurd h
twice_kept {X} f (y ∷ l) x e h = go (f y) refl h (λ k. twice_kept f l x e k)
  where
    go : (b : Bool) → f y ≡ b → Twice x (y ∷ l) → (Twice x l → Twice x (keep f l)) → Twice x (cond b (y ∷ keep f l) (keep f l))
    go true q (inl k) ih = inl (k.0, has_keep f l x k.1 e)
    go true q (inr k) ih = inr (ih k)
    go false q (inl k) ih = absurd (let z : true ≡ false = sym e ∙ ap f k.0 ∙ q in cc)
    go false q (inr k) ih = ih k

pub kept_doubled : {X : Type 0} (f : X → Bool) (l : List X) → Doubled (keep f l) → Doubled l
kept_doubled f [] h = absurd h
kept_doubled {X} f (y ∷ l) h = go (f y) h (λ k. kept_doubled f l k)
  where
    go : (b : Bool) → Doubled (cond b (y ∷ keep f l) (keep f l)) → (Doubled (keep f l) → Doubled l) → Doubled (y ∷ l)
    go true (inl k) ih = inl (keep_has f l y k).0
    go true (inr k) ih = inr (ih k)
    go false k ih = inr (ih k)

-- two neighbours are equal, where x stands before the list
abbrev pub EqualFrom : {X : Type 0} → X → List X → Type 0
EqualFrom x [] = ⊥
EqualFrom x (y ∷ l) = (y ≡ x) ⊎ EqualFrom y l

module _ {X : Type 0} (R : X → X → Ordering) (o : IsTotalOrder R) (same : (x y : X) → R x y ≡ Equal → x ≡ y) where
  -- in a sorted list, what stands twice stands at neighbours
  pub equal_from_doubled : (x : X) (l : List X) → Up R (x ∷ l) → Doubled (x ∷ l) → EqualFrom x l
  equal_from_doubled x [] u (inl h) = h
  equal_from_doubled x [] u (inr h) = h
  equal_from_doubled x (y ∷ l) u (inl (inl e)) = inl (sym e)
  equal_from_doubled x (y ∷ l) u (inl (inr h)) =
      inl (sym (same x y (squeezed R o (R x y) (R y x) (o.antisymm x y) (u.0 y (inl refl)) (u.1.0 x h))))
  equal_from_doubled x (y ∷ l) u (inr h) = inr (equal_from_doubled y l u.1 h)

  pub doubled_from_equal : (x : X) (l : List X) → EqualFrom x l → Doubled (x ∷ l)
  doubled_from_equal x [] h = absurd h
  doubled_from_equal x (y ∷ l) (inl e) = inl (inl (sym e))
  doubled_from_equal x (y ∷ l) (inr h) = inr (doubled_from_equal y l h)

  one : X → X → ℕ
  one x y = cond (is_eq (R x y)) 1 0

  count : X → List X → ℕ
  count x l = sum_by (one x) l

  one_itself : (x y : X) → x ≡ y → one x y ≡ 1
  unfolding one
  one_itself x y e = ap (λ r. cond (is_eq r) 1 0) (subst (λ w. R x w ≡ Equal) e (tied_itself o x))

  one_cases : (x y : X) → (x ≡ y) ⊎ (one x y ≡ 0)
  unfolding one
  one_cases x y = go (R x y) refl
    where
      go : (r : Ordering) → R x y ≡ r → (x ≡ y) ⊎ (◌≡◌ {A = ℕ} (cond (is_eq r) 1 0) 0)
      go Less e = inr refl
      go Equal e = inl (same x y e)
      go Greater e = inr refl

  count-cons : (x y : X) (l : List X) → count x (y ∷ l) ≡ one x y + count x l
  unfolding count
  count-cons x y l = sum_by-cons (one x) y l

  count_nil : (x : X) → count x [] ≡ 0
  unfolding count
  count_nil x = refl

  count_has : (x : X) (l : List X) → Has x l → 1 ≤ count x l
  count_has x [] h = absurd h
  count_has x (y ∷ l) (inl e) = let a = one_itself x y e in let b = count-cons x y l in omega arith
  count_has x (y ∷ l) (inr h) = let a = count_has x l h in let b = count-cons x y l in omega arith

  has_counted : (x : X) (l : List X) → 1 ≤ count x l → Has x l
  has_counted x [] h = let a = count_nil x in absurd (omega arith)
  has_counted x (y ∷ l) h =
      elim (one_cases x y) [ inl e ↦ inl e | inr z ↦ (let b = count-cons x y l in let k : 1 ≤ count x l = omega arith in inr (has_counted x l k)) ]

  count_doubled : (l : List X) → Doubled l → (x : X) × (2 ≤ count x l)
  count_doubled [] h = absurd h
  count_doubled (x ∷ l) (inl h) =
      (x, (let a = one_itself x x refl in let b = count-cons x x l in let k = count_has x l h in omega arith))
  count_doubled (y ∷ l) (inr h) =
      let t = count_doubled l h in
      (t.0, (let b = count-cons t.0 y l in let k : 2 ≤ count t.0 l = t.1 in omega arith))

  doubled_counted : (x : X) (l : List X) → 2 ≤ count x l → Doubled l
  doubled_counted x [] h = let a = count_nil x in absurd (omega arith)
  doubled_counted x (y ∷ l) h =
      elim (one_cases x y) [
        | inl e ↦ (let a = one_itself x y e in let b = count-cons x y l in let k : 1 ≤ count x l = omega arith in
            inl (subst (λ w. Has w l) e (has_counted x l k)))
        | inr z ↦ (let b = count-cons x y l in let k : 2 ≤ count x l = omega arith in inr (doubled_counted x l k))
      ]

  count_moved : (x : X) (xs ys : List X) → IsPermutation xs ys → count x ys ≡ count x xs
  unfolding count
  count_moved x xs ys p = sum_by-IsPermutation (one x) xs ys p

  -- the order of a list does not matter
  pub Doubled-permutation : (xs ys : List X) → IsPermutation xs ys → Doubled xs → Doubled ys
  Doubled-permutation xs ys p h =
      let t = count_doubled xs h in
      let k : 2 ≤ count t.0 xs = t.1 in
      let e = count_moved t.0 xs ys p in
      doubled_counted t.0 ys (omega arith)

  -- where a test tells which items are equal, equal neighbours of a sorted list tell whether one stands twice in it
  module _ (eq : X → X → Bool) (equals : (x y : X) → eq x y ≡ true → x ≡ y) (equal : (x y : X) → x ≡ y → eq x y ≡ true) where
    if_from : (x : X) (l : List X) → equal_from eq x l ≡ true → EqualFrom x l
    if_from x [] e = absurd cc
    if_from x (y ∷ l) e = go (eq y x) refl e (if_from y l)
      where
        go : (b : Bool) → eq y x ≡ b → cond b true (equal_from eq y l) ≡ true → (equal_from eq y l ≡ true → EqualFrom y l) → EqualFrom x (y ∷ l)
        go true p e f = inl (equals y x p)
        go false p e f = inr (f e)

    from_means : (x : X) (l : List X) → EqualFrom x l → equal_from eq x l ≡ true
    from_means x [] h = absurd h
    from_means x (y ∷ l) (inl e) = ap (λ b. cond b true (equal_from eq y l)) (equal y x e)
    from_means x (y ∷ l) (inr h) = go (eq y x) (from_means y l h)
      where
        go : (b : Bool) → equal_from eq y l ≡ true → cond b true (equal_from eq y l) ≡ true
        go true e = refl
        go false e = e

    pub neighbours_doubled : (l : List X) → equal_neighbours eq l ≡ true → Doubled l
    neighbours_doubled [] e = absurd cc
    neighbours_doubled (x ∷ l) e = doubled_from_equal x l (if_from x l e)

    pub doubled_neighbours : (l : List X) → IsSorted R l → Doubled l → equal_neighbours eq l ≡ true
    doubled_neighbours [] s h = absurd h
    doubled_neighbours (x ∷ l) s h = from_means x l (equal_from_doubled x l (up_from_sorted R o (x ∷ l) s) h)
