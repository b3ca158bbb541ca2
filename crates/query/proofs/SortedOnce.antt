-- What sorting leaves, once of equal neighbours one is kept.
use Rattle.std.proofs.Common.{◌≡◌, Bool, true, false, cond, List, [], ◌∷◌, inl, inr, refl, sym, ap, ◌∙◌, subst}
use Rattle.std.specs.Prelude.{map as map_list}
use Rattle.std.specs.Cmp.{IsTotalOrder, on_total, tied_itself}
use Rattle.std.specs.FinMap.{IsAntisymmetric}
use Rattle.std.specs.List.{dedup, dedup_from}
use Rattle.std.specs.List.Retain.{IsFiltered, DiffersFromLast}
use Rattle.std.specs.List.Sorted.{IsPermutation, IsSorted}
use Rattle.std.specs.Ordering.{eq_by_cmp, is_eq, is_gt}
use Rattle.std.specs.declared.cmp.Ordering.{Ordering}
use Rattle.std.specs.declared.cmp.Ordering.TheVariants.{Less}
use Rattle.std.proofs.lemmas.List.Filters.{dedup_is}
use Rattle.std.proofs.lemmas.List.Sorted.{IsPermutation-map, IsPermutation-sym}
use Rattle.lines.proofs.SortedLists.{Has-permutation, Up, tied_same, up_from_sorted}
use Rattle.theory.specs.Arcs.{Ascends, AreSortedOnce}
use Rattle.theory.specs.Lists.{Has}
use Rattle.theory.proofs.Ascending.{at_most_less, at_most_same}
use Rattle.theory.proofs.ListsOfLists.{map_has}

module _ {X : Type 0} (R : X → X → Ordering) (o : IsTotalOrder R) (same : IsAntisymmetric R)
    (E : X → X → Bool) (ties : (x y : X) → E x y ≡ eq_by_cmp R x y) where
  tied : (x y : X) → E x y ≡ true → x ≡ y
  tied x y e = tied_same R same x y (sym (ties x y) ∙ e)

  untied : (x y : X) → E x y ≡ false → ¬ (x ≡ y)
  untied x y e k = let h : true ≡ false = sym (ties x y ∙ ap (λ w. is_eq (R x w)) (sym k) ∙ ap is_eq (tied_itself o x)) ∙ e in cc

  kept_had : (k : X) (xs : List X) (x : X) → Has x (dedup_from E k xs) → Has x (k ∷ xs)
  kept_had k [] x h = h
  kept_had k (y ∷ xs) x h = go (E y k) h (λ i. kept_had k xs x i) (λ i. kept_had y xs x i)
    where
      go : (b : Bool) → Has x (cond b (dedup_from E k xs) (k ∷ dedup_from E y xs)) → (Has x (dedup_from E k xs) → Has x (k ∷ xs)) →
          (Has x (dedup_from E y xs) → Has x (y ∷ xs)) → Has x (k ∷ (y ∷ xs))
      go true i f g = elim (f i) [ inl e ↦ inl e | inr j ↦ inr (inr j) ]
      go false (inl e) f g = inl e
      go false (inr i) f g = inr (g i)

  had_kept : (k : X) (xs : List X) (x : X) → Has x (k ∷ xs) → Has x (dedup_from E k xs)
  had_kept k [] x h = h
  had_kept k (y ∷ xs) x h = go (E y k) refl h (λ i. had_kept k xs x i) (λ i. had_kept y xs x i)
    where
      go : (b : Bool) → E y k ≡ b → Has x (k ∷ (y ∷ xs)) → (Has x (k ∷ xs) → Has x (dedup_from E k xs)) →
          (Has x (y ∷ xs) → Has x (dedup_from E y xs)) → Has x (cond b (dedup_from E k xs) (k ∷ dedup_from E y xs))
      go true e (inl i) f g = f (inl i)
      go true e (inr (inl i)) f g = f (inl (i ∙ tied y k e))
      go true e (inr (inr i)) f g = f (inr i)
      go false e (inl i) f g = inl i
      go false e (inr i) f g = inr (g i)

  -- what comes before y comes before all that follows y
  before : (k y : X) (xs : List X) → Up R (k ∷ (y ∷ xs)) → ¬ (y ≡ k) → (z : X) → Has z (y ∷ xs) → R k z ≡ Less
  before k y xs u n z (inl e) =
      elim (at_most_less R o same k z (u.0 z (inl e))) [ inl l ↦ l | inr q ↦ absurd (n (sym (q ∙ e))) ]
  before k y xs u n z (inr h) =
      elim (at_most_less R o same k z (u.0 z (inr h))) [
        | inl l ↦ l
        | inr q ↦ absurd (n (at_most_same R o same y k (subst (λ w. is_gt (R y w) ≡ false) (sym q) (u.1.0 z h)) (u.0 y (inl refl))))
      ]

  kept_ascend : (k : X) (xs : List X) → Up R (k ∷ xs) → Ascends R (dedup_from E k xs)
  kept_ascend k [] u = ((λ y h. absurd h), tt)
  kept_ascend k (y ∷ xs) u =
      go (E y k) refl (kept_ascend k xs ((λ z h. u.0 z (inr h)), u.1.1)) (kept_ascend y xs u.1)
    where
      go : (b : Bool) → E y k ≡ b → Ascends R (dedup_from E k xs) → Ascends R (dedup_from E y xs) → Ascends R (cond b (dedup_from E k xs) (k ∷ dedup_from E y xs))
      go true e f g = f
      go false e f g = ((λ z h. before k y xs u (untied y k e) z (kept_had y xs z h)), g)

  deduped : (ys : List X) → Up R ys → AreSortedOnce R ys (dedup E ys)
  deduped [] u = record { ascends = tt; there = λ c h. h; only = λ c h. h }
  deduped (k ∷ xs) u = record { ascends = kept_ascend k xs u; there = λ c h. had_kept k xs c h; only = λ c h. kept_had k xs c h }

  pub sorted_once : (xs ys zs : List X) → IsPermutation xs ys → IsSorted R ys → IsFiltered (DiffersFromLast E) [] ys zs → AreSortedOnce R xs zs
  sorted_once xs ys zs p s f =
      let d = deduped ys (up_from_sorted R o ys s) in
      subst (AreSortedOnce R xs) (sym (dedup_is E ys zs f)) (record {
        ascends = d.ascends;
        there = λ c h. d.there c (Has-permutation xs ys c p h);
        only = λ c h. Has-permutation ys xs c (IsPermutation-sym xs ys p) (d.only c h);
      })

-- the same of lists that are sorted by what f makes of their elements
module _ {B X : Type 0} (f : B → X) (R : X → X → Ordering) (o : IsTotalOrder R) (same : IsAntisymmetric R)
    (E : X → X → Bool) (ties : (x y : X) → E x y ≡ eq_by_cmp R x y) where
  map_kept : (k : B) (xs : List B) → map_list f (dedup_from (λ x y. E (f x) (f y)) k xs) ≡ dedup_from E (f k) (map_list f xs)
  map_kept k [] = refl
  map_kept k (y ∷ xs) = go (E (f y) (f k)) (map_kept k xs) (map_kept y xs)
    where
      go : (b : Bool) → map_list f (dedup_from (λ x y. E (f x) (f y)) k xs) ≡ dedup_from E (f k) (map_list f xs) →
          map_list f (dedup_from (λ x y. E (f x) (f y)) y xs) ≡ dedup_from E (f y) (map_list f xs) →
          map_list f (cond b (dedup_from (λ x y. E (f x) (f y)) k xs) (k ∷ dedup_from (λ x y. E (f x) (f y)) y xs))
          ≡ cond b (dedup_from E (f k) (map_list f xs)) (f k ∷ dedup_from E (f y) (map_list f xs))
      go true p q = p
      go false p q = ap (λ l. f k ∷ l) q

  map_deduped : (xs : List B) → map_list f (dedup (λ x y. E (f x) (f y)) xs) ≡ dedup E (map_list f xs)
  map_deduped [] = refl
  map_deduped (x ∷ xs) = map_kept x xs

  map_up : (xs : List B) → Up (λ x y. R (f x) (f y)) xs → Up R (map_list f xs)
  map_up [] u = tt
  map_up (x ∷ xs) u = (
    (λ y h. let (z, there, e) = map_has f xs y h in subst (λ w. is_gt (R (f x) w) ≡ false) (sym e) (u.0 z there)),
    map_up xs u.1,
  )

  pub sorted_once_by : (xs ys zs : List B) → IsPermutation xs ys → IsSorted (λ x y. R (f x) (f y)) ys →
      IsFiltered (DiffersFromLast (λ x y. E (f x) (f y))) [] ys zs → AreSortedOnce R (map_list f xs) (map_list f zs)
  sorted_once_by xs ys zs p s h =
      let d = deduped R o same E ties (map_list f ys) (map_up ys (up_from_sorted (λ x y. R (f x) (f y)) (on_total f o) ys s)) in
      let is : map_list f zs ≡ dedup E (map_list f ys) = ap (map_list f) (dedup_is (λ x y. E (f x) (f y)) ys zs h) ∙ map_deduped ys in
      let moved : IsPermutation (map_list f xs) (map_list f ys) = IsPermutation-map f xs ys p in
      subst (AreSortedOnce R (map_list f xs)) (sym is) (record {
        ascends = d.ascends;
        there = λ c i. d.there c (Has-permutation (map_list f xs) (map_list f ys) c moved i);
        only = λ c i. Has-permutation (map_list f ys) (map_list f xs) c (IsPermutation-sym (map_list f xs) (map_list f ys) moved) (d.only c i);
      })
