-- Sorted lists, and what stands in them.
use Rattle.std.proofs.Common.{◌≡◌, ℕ, zero, suc, ◌+◌, ◌<◌, true, false, List, [], ◌∷◌, length, get_or, inl, inr, refl, sym, subst, arith}
use Rattle.std.specs.List.{Contains}
use Rattle.std.specs.List.Sorted.{IsPermutation, IsSorted}
use Rattle.std.specs.Cmp.{IsTotalOrder, upto}
use Rattle.std.specs.FinMap.{IsAntisymmetric}
use Rattle.std.specs.Ordering.{is_eq, is_lt, is_gt, ordering_reverse}
use Rattle.std.specs.declared.cmp.Ordering.{Ordering}
use Rattle.std.specs.declared.cmp.Ordering.TheVariants.{Less, Equal, Greater}
use Rattle.std.proofs.lemmas.List.Sorted.{Contains-permutation}
use Rattle.theory.specs.Lists.{Has}

-- no element comes before an earlier one
abbrev pub Up : {X : Type 0} → (X → X → Ordering) → List X → Type 0
Up R [] = Unit {0}
Up {X} R (x ∷ l) = ((y : X) → Has y l → is_gt (R x y) ≡ false) × Up R l

-- the same for neighbours alone
abbrev pub Rises : {X : Type 0} → (X → X → Ordering) → X → List X → Type 0
Rises R x [] = Unit {0}
Rises R x (y ∷ l) = (is_lt (R y x) ≡ false) × Rises R y l

pub Contains-from_has : {X : Type 0} (x : X) (l : List X) → Has x l → Contains l x
Contains-from_has x [] h = absurd h
Contains-from_has x (y ∷ l) (inl e) = (0, omega arith, sym e)
Contains-from_has x (y ∷ l) (inr h) =
    let t = Contains-from_has x l h in (suc t.0, omega (arith, t.1), t.2)

pub has_from_contains : {X : Type 0} (x : X) (l : List X) (k : ℕ) → k < length l → get_or l k x ≡ x → Has x l
has_from_contains x [] k h e = absurd (omega arith)
has_from_contains x (y ∷ l) zero h e = inl (sym e)
has_from_contains x (y ∷ l) (suc k) h e = inr (has_from_contains x l k (omega (arith, h)) e)

pub Has-permutation : {X : Type 0} (xs ys : List X) (x : X) → IsPermutation xs ys → Has x xs → Has x ys
Has-permutation xs ys x p h =
    let t = Contains-permutation xs ys x p (Contains-from_has x xs h) in
    has_from_contains x ys t.0 t.1 t.2

module _ {X : Type 0} (R : X → X → Ordering) where
  pub tail_sorted : (x : X) (l : List X) → IsSorted R (x ∷ l) → IsSorted R l
  tail_sorted x l s = λ k d a b.
      let t = s (suc k) d (omega arith) (omega (arith, b)) in
      let e : suc k + 1 ≡ suc (k + 1) = omega arith in
      subst (λ n. is_lt (R (get_or (x ∷ l) n d) (get_or l k d)) ≡ false) e t

  pub rises_from_sorted : (x : X) (l : List X) → IsSorted R (x ∷ l) → Rises R x l
  rises_from_sorted x [] s = tt
  rises_from_sorted x (y ∷ l) s = (s 0 x (omega arith) (omega arith), rises_from_sorted y l (tail_sorted x (y ∷ l) s))

module _ {X : Type 0} (R : X → X → Ordering) (o : IsTotalOrder R) where
  pub not_less : (r s : Ordering) → r ≡ ordering_reverse s → is_lt r ≡ false → is_gt s ≡ false
  not_less r Less e h = refl
  not_less r Equal e h = refl
  not_less r Greater e h = cc

  least_first : (x y : X) (l : List X) → Rises R x l → Has y l → is_gt (R x y) ≡ false
  least_first x y [] r h = absurd h
  least_first x y (z ∷ l) r (inl e) = subst (λ w. is_gt (R x w) ≡ false) (sym e) (not_less (R z x) (R x z) (o.antisymm z x) r.0)
  least_first x y (z ∷ l) r (inr h) = upto o x z y (not_less (R z x) (R x z) (o.antisymm z x) r.0) (least_first z y l r.1 h)

  pub up_from_rises : (x : X) (l : List X) → Rises R x l → Up R (x ∷ l)
  up_from_rises x [] r = ((λ y h. absurd h), tt)
  up_from_rises x (z ∷ l) r = ((λ y h. least_first x y (z ∷ l) r h), up_from_rises z l r.1)

  pub up_from_sorted : (l : List X) → IsSorted R l → Up R l
  up_from_sorted [] s = tt
  up_from_sorted (x ∷ l) s = up_from_rises x l (rises_from_sorted R x l s)

  pub squeezed : (r s : Ordering) → r ≡ ordering_reverse s → is_gt r ≡ false → is_gt s ≡ false → r ≡ Equal
  squeezed Less Less e h k = cc
  squeezed Less Equal e h k = cc
  squeezed Less Greater e h k = cc
  squeezed Equal s e h k = refl
  squeezed Greater s e h k = cc

-- a lesser one doesn't come after
pub less_most : (r : Ordering) → is_lt r ≡ true → is_gt r ≡ false
less_most Less e = refl
less_most Equal e = refl
less_most Greater e = cc

-- those that tie are the same
pub tied_same : {X : Type 0} (R : X → X → Ordering) → IsAntisymmetric R → (x y : X) → is_eq (R x y) ≡ true → x ≡ y
tied_same {X} R same x y = go (R x y) refl
  where
    go : (r : Ordering) → R x y ≡ r → is_eq r ≡ true → x ≡ y
    go Less e h = cc
    go Equal e h = same x y e
    go Greater e h = cc
