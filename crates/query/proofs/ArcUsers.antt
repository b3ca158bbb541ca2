-- The users of arcs in order, and which of them are between two places of it.
use Rattle.std.proofs.Common.{◌≡◌, ◌<◌, ◌≤◌, ◌+◌, ◌==◌, ℕ, zero, suc, Bool, true, false, cond, List, [], ◌∷◌, ◌++◌, length, get_or, take, drop, inl, inr, refl, sym, ap, ◌∙◌, subst, arith, append-nil}
use Rattle.std.specs.Cmp.{ranks, unsigned_Decides}
use Rattle.std.specs.List.Sorted.{IsNonDecreasingBy, IsPartitionPoint, IsPartitionedBy, IsPermutation, IsSorted}
use Rattle.std.specs.Ordering.{MatchOrdering, is_lt, nat_cmp, ordering_then}
use Rattle.std.specs.Prelude.{filter, not, map as map_list}
use Rattle.std.specs.declared.cmp.Ordering.{Ordering}
use Rattle.std.specs.declared.cmp.Ordering.TheVariants.{Less, Equal, Greater}
use Rattle.std.proofs.Math.Dec.{leb, ltb}
use Rattle.std.proofs.lemmas.Bool.Decides.{leb_tells}
use Rattle.std.proofs.lemmas.List.{take-append-drop}
use Rattle.std.proofs.lemmas.List.Elements.{filter-append, filter_passes}
use Rattle.std.proofs.lemmas.List.Kept.{IsSortedBy-filter}
use Rattle.std.proofs.lemmas.List.Sorted.{IsNonDecreasingBy-drop, IsNonDecreasingBy-from_sort, IsPartitionedBy-leb, IsPartitionedBy-ltb, IsPermutation-sym, ranks_by}
use Rattle.lines.proofs.SortedLists.{Has-permutation}
use Rattle.theory.specs.Lists.{Has}
use Rattle.theory.proofs.ListsOfLists.{map_has}
use Rattle.query.specs.ArcUsers.{AreInOrder, AreUsersOf, user_cmp, user_of, users_of}
use Rattle.query.specs.declared.arc_users.ArcUser.{ArcUser}
use Rattle.query.specs.declared.uses.Use.{Use}
use Rattle.query.proofs.Orders.{user_total}
use Rattle.query.proofs.Spanning.{same_number}

-- what a test keeps of a list
module _ {X : Type 0} (test : X → Bool) where
  pub kept_from : (xs : List X) (x : X) → Has x (filter test xs) → Has x xs × (test x ≡ true)
  kept_from [] x h = absurd h
  kept_from (y ∷ xs) x h = go (test y) refl h (λ k. kept_from xs x k)
    where
      go : (b : Bool) → test y ≡ b → Has x (cond b (y ∷ filter test xs) (filter test xs)) → (Has x (filter test xs) → Has x xs × (test x ≡ true)) → Has x (y ∷ xs) × (test x ≡ true)
      go true e (inl k) f = (inl k, ap test k ∙ e)
      go true e (inr k) f = (inr (f k).0, (f k).1)
      go false e k f = (inr (f k).0, (f k).1)

  pub has_kept : (xs : List X) (x : X) → Has x xs → test x ≡ true → Has x (filter test xs)
  has_kept [] x h t = absurd h
  has_kept (y ∷ xs) x h t = go (test y) refl h (λ k. has_kept xs x k t)
    where
      go : (b : Bool) → test y ≡ b → Has x (y ∷ xs) → (Has x xs → Has x (filter test xs)) → Has x (cond b (y ∷ filter test xs) (filter test xs))
      go true e (inl k) f = inl k
      go true e (inr k) f = inr (f k)
      go false e (inl k) f = absurd (let g : true ≡ false = sym t ∙ ap test k ∙ e in cc)
      go false e (inr k) f = f k

  kept_all : (xs : List X) → ((x : X) → Has x xs → test x ≡ true) → filter test xs ≡ xs
  kept_all [] h = refl
  kept_all (x ∷ xs) h = ap (λ b. cond b (x ∷ filter test xs) (filter test xs)) (h x (inl refl)) ∙ ap (λ l. x ∷ l) (kept_all xs (λ y k. h y (inr k)))

  kept_none : (xs : List X) → ((x : X) → Has x xs → test x ≡ false) → filter test xs ≡ []
  kept_none [] h = refl
  kept_none (x ∷ xs) h = ap (λ b. cond b (x ∷ filter test xs) (filter test xs)) (h x (inl refl)) ∙ kept_none xs (λ y k. h y (inr k))

-- what is not before by its first number, and where that is the same, by what comes next
first_least : (a r : Ordering) → is_lt (ordering_then a r) ≡ false → is_lt a ≡ false
first_least Less r e = cc
first_least Equal r e = refl
first_least Greater r e = refl

next_least : (a b : ℕ) (r : Ordering) → a ≡ b → is_lt (ordering_then (nat_cmp a b) r) ≡ false → is_lt r ≡ false
next_least a b r f e = go (nat_cmp a b) (ranks a b) e
  where
    go : (c : Ordering) → MatchOrdering c (a < b) (a ≡ b) (b < a) → is_lt (ordering_then c r) ≡ false → is_lt r ≡ false
    go Less h k = absurd (omega (arith, h, f))
    go Equal h k = k
    go Greater h k = absurd (omega (arith, h, f))

pub in_order : (vs : List ArcUser) → IsSorted user_cmp vs → AreInOrder vs
in_order vs s = record {
  by_arc = IsNonDecreasingBy-from_sort (λ v. v.arc) vs (λ i d a b. first_least _ _ (s i d a b));
  by_class = λ k. IsNonDecreasingBy-from_sort (λ v. v.class) (users_of k vs) (λ i d a b.
      let one = λ (j : ℕ) (h : j < length (users_of k vs)). same_number (get_or (users_of k vs) j d).arc k true (filter_passes (λ v. v.arc == k) vs j d h) refl in
      first_least _ _ (next_least _ _ _ (one (i + 1) b ∙ sym (one i (omega (arith, b))))
      (IsSortedBy-filter (λ v w. is_lt (user_cmp v w)) (ranks_by user_total (λ (v : ArcUser). v)) (λ v. v.arc == k) vs s i d a b)));
}

pub are_users : (cs : List ℕ) (us : List Use) (ws vs : List ArcUser) → ws ≡ map_list (user_of cs) us → IsPermutation ws vs → AreUsersOf cs us vs
are_users cs us ws vs e p = record {
  there = λ u h. Has-permutation ws vs (user_of cs u) p (subst (Has (user_of cs u)) (sym e) (has_map us u h));
  only = λ v h. map_has (user_of cs) us v (subst (Has v) e (Has-permutation vs ws v (IsPermutation-sym ws vs p) h));
}
  where
    has_map : (us : List Use) (u : Use) → Has u us → Has (user_of cs u) (map_list (user_of cs) us)
    has_map [] u h = absurd h
    has_map (w ∷ us) u (inl e) = inl (ap (user_of cs) e)
    has_map (w ∷ us) u (inr h) = inr (has_map us u h)

-- what stands before a place, and what stands behind it
has_take : {X : Type 0} (xs : List X) (i : ℕ) (x : X) → Has x (take i xs) → (k : ℕ) × (k < i) × (get_or xs k x ≡ x)
has_take [] zero x h = absurd h
has_take [] (suc i) x h = absurd h
has_take (y ∷ xs) zero x h = absurd h
has_take (y ∷ xs) (suc i) x (inl e) = (0, omega arith, sym e)
has_take (y ∷ xs) (suc i) x (inr h) = let t = has_take xs i x h in (suc t.0, omega (arith, t.1), t.2)

has_drop : {X : Type 0} (xs : List X) (i : ℕ) (x : X) → Has x (drop i xs) → (k : ℕ) × (i ≤ k) × (k < length xs) × (get_or xs k x ≡ x)
has_drop [] zero x h = absurd h
has_drop [] (suc i) x h = absurd h
has_drop (y ∷ xs) zero x (inl e) = (0, omega arith, omega arith, sym e)
has_drop (y ∷ xs) zero x (inr h) = let t = has_drop xs zero x h in (suc t.0, omega arith, omega (arith, t.2), t.3)
has_drop (y ∷ xs) (suc i) x h = let t = has_drop xs i x h in (suc t.0, omega (arith, t.1), omega (arith, t.2), t.3)

alike : (a b : ℕ) → a ≡ b → (a == b) ≡ true
alike a b e = (unsigned_Decides a b).1 e

pub unlike : (a b : ℕ) → ¬ (a ≡ b) → (a == b) ≡ false
unlike a b n = go (a == b) refl
  where
    go : (t : Bool) → (a == b) ≡ t → t ≡ false
    go true e = absurd (n (same_number a b true e refl))
    go false e = refl

-- the places before which a number is less than t, and from which on it is more
module _ {X : Type 0} (n : X → ℕ) (t a b : ℕ) (xs from : List X) (rise : IsNonDecreasingBy n xs) (back : from ≡ drop a xs)
    (first : IsPartitionedBy (λ y. ltb (n y) t) xs → IsPartitionPoint (λ y. ltb (n y) t ≡ true) (λ y. ltb (n y) t ≡ false) xs a)
    (next : IsPartitionedBy (λ y. leb (n y) t) from → IsPartitionPoint (λ y. leb (n y) t ≡ true) (λ y. leb (n y) t ≡ false) from b) where
  low : IsPartitionPoint (λ y. ltb (n y) t ≡ true) (λ y. ltb (n y) t ≡ false) xs a
  low = first (IsPartitionedBy-ltb n xs t rise)

  high : IsPartitionPoint (λ y. leb (n y) t ≡ true) (λ y. leb (n y) t ≡ false) from b
  high = next (IsPartitionedBy-leb n from t (subst (IsNonDecreasingBy n) (sym back) (IsNonDecreasingBy-drop n a xs rise)))

  below : (x : X) → Has x (take a xs) → n x < t
  below x h =
      let (k, under, is) = has_take xs a x h in
      let meant : ltb (n x) t ≡ true = subst (λ y. ltb (n y) t ≡ true) is (low.0 k x (omega arith) under) in
      elim (leb_tells (suc (n x)) t) [ inl p ↦ omega (arith, p.1) | inr p ↦ absurd (let e : true ≡ false = sym meant ∙ p.0 in cc) ]

  least : (x : X) → Has x from → t ≤ n x
  least x h =
      let (k, over, under, is) = has_drop xs a x (subst (Has x) back h) in
      let meant : ltb (n x) t ≡ false = subst (λ y. ltb (n y) t ≡ false) is (low.1 k x over under) in
      elim (leb_tells (suc (n x)) t) [ inl p ↦ absurd (let e : true ≡ false = sym p.0 ∙ meant in cc) | inr p ↦ omega (arith, p.1) ]

  within : (x : X) → Has x (take b from) → n x ≡ t
  within x h =
      let (k, under, is) = has_take from b x h in
      let meant : leb (n x) t ≡ true = subst (λ y. leb (n y) t ≡ true) is (high.0 k x (omega arith) under) in
      let more = least x (taken from b x h) in
      elim (leb_tells (n x) t) [ inl p ↦ omega (arith, p.1, more) | inr p ↦ absurd (let e : true ≡ false = sym meant ∙ p.0 in cc) ]
    where
      taken : (ys : List X) (i : ℕ) (x : X) → Has x (take i ys) → Has x ys
      taken [] zero x h = h
      taken [] (suc i) x h = h
      taken (y ∷ ys) zero x h = absurd h
      taken (y ∷ ys) (suc i) x (inl e) = inl e
      taken (y ∷ ys) (suc i) x (inr h) = inr (taken ys i x h)

  above : (x : X) → Has x (drop b from) → t < n x
  above x h =
      let (k, over, under, is) = has_drop from b x h in
      let meant : leb (n x) t ≡ false = subst (λ y. leb (n y) t ≡ false) is (high.1 k x over under) in
      elim (leb_tells (n x) t) [ inl p ↦ absurd (let e : true ≡ false = sym p.0 ∙ meant in cc) | inr p ↦ omega (arith, p.1) ]

  in_parts : (test : X → Bool) → filter test xs ≡ filter test (take a xs) ++ (filter test (take b from) ++ filter test (drop b from))
  in_parts test =
      ap (filter test) (sym (take-append-drop a xs) ∙ ap (λ l. take a xs ++ l) (sym back))
      ∙ filter-append test (take a xs) from
      ∙ ap (λ l. filter test (take a xs) ++ filter test l) (sym (take-append-drop b from))
      ∙ ap (λ l. filter test (take a xs) ++ l) (filter-append test (take b from) (drop b from))

  -- those of the number are between the places
  pub between_places : take b from ≡ filter (λ y. n y == t) xs
  between_places =
      let test = λ (y : X). n y == t in
      sym (in_parts test
      ∙ ap (λ l. l ++ (filter test (take b from) ++ filter test (drop b from)))
      (kept_none test (take a xs) (λ x h. unlike (n x) t (λ e. let k = below x h in omega (arith, k, e))))
      ∙ ap (λ l. l ++ filter test (drop b from)) (kept_all test (take b from) (λ x h. alike (n x) t (within x h)))
      ∙ ap (λ l. take b from ++ l) (kept_none test (drop b from) (λ x h. unlike (n x) t (λ e. let k = above x h in omega (arith, k, e))))
      ∙ append-nil (take b from))

  -- and the others are before and behind them
  pub beside_places : take a xs ++ drop b from ≡ filter (λ y. not (n y == t)) xs
  beside_places =
      let test = λ (y : X). not (n y == t) in
      sym (in_parts test
      ∙ ap (λ l. l ++ (filter test (take b from) ++ filter test (drop b from)))
      (kept_all test (take a xs) (λ x h. ap not (unlike (n x) t (λ e. let k = below x h in omega (arith, k, e)))))
      ∙ ap (λ l. take a xs ++ (l ++ filter test (drop b from))) (kept_none test (take b from) (λ x h. ap not (alike (n x) t (within x h))))
      ∙ ap (λ l. take a xs ++ l) (kept_all test (drop b from) (λ x h. ap not (unlike (n x) t (λ e. let k = above x h in omega (arith, k, e))))))
