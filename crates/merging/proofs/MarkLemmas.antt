-- The marks of the indexes that a plan names.
use Rattle.std.proofs.Common.{◌≡◌, ℕ, zero, suc, ◌+◌, ◌<◌, ◌≤◌, Bool, true, false, cond, List, [], ◌∷◌, ◌++◌, length, get_or, set, replicate, Some, None, refl, sym, ◌∙◌, ap, arith, ◌⊎◌, inl, inr, ◌≢◌, eqb}
use Rattle.std.specs.Prelude.{nat_lt}
use Rattle.std.specs.List.{flat_map, range_with_len}
use Rattle.std.proofs.lemmas.Bool.{ltb-true, ltb-false, lt-ltb}
use Rattle.std.proofs.lemmas.Bool.Decides.{eqb_tells}
use Rattle.std.proofs.lemmas.List.{length-set, get_or-set_same, get_or-set_other, get_or-replicate, get_or_past, length-replicate}
use Rattle.merging.specs.Alike.{IsIn}
use Rattle.merging.specs.Leaves.{first_outside}
use Rattle.merging.specs.Naming.{AreMarksOf, marked}
use Rattle.merging.proofs.LeafLemmas.{inside}

pub marked-append : (marks : List Bool) (is js : List ℕ) → marked marks (is ++ js) ≡ marked (marked marks js) is
marked-append marks [] js = refl
marked-append marks (i ∷ is) js = ap (λ m. set m i true) (marked-append marks is js)

-- the index is marked, and what waits on its left is left
pub index_marked : {X : Type 0} (f : X → List ℕ) (marks start : List Bool) (waiting : List X) (here : List ℕ) (i : ℕ) (all : List ℕ)
    → marked marks (flat_map f waiting ++ here) ≡ marked start all → here ≡ i ∷ [] → marked (set marks i true) (flat_map f waiting) ≡ marked start all
index_marked f marks start waiting here i all h e =
    ap (λ m. marked m (flat_map f waiting)) (sym (ap (marked marks) e)) ∙ sym (marked-append marks (flat_map f waiting) here) ∙ h

length-marked : (marks : List Bool) (is : List ℕ) → length (marked marks is) ≡ length marks
length-marked marks [] = refl
length-marked marks (i ∷ is) = length-set (marked marks is) i true ∙ length-marked marks is

marked_in : (marks : List Bool) (is : List ℕ) (i : ℕ) → get_or (marked marks is) i false ≡ true → (get_or marks i false ≡ true) ⊎ IsIn i is
marked_in marks [] i h = inl h
marked_in marks (j ∷ js) i h = go (eqb_tells i j) (marked_in marks js i)
  where
    go : ((eqb i j ≡ true) × (i ≡ j)) ⊎ ((eqb i j ≡ false) × (i ≢ j)) → (get_or (marked marks js) i false ≡ true → (get_or marks i false ≡ true) ⊎ IsIn i js) → (get_or marks i false ≡ true) ⊎ IsIn i (j ∷ js)
    go (inl (_, e)) rest = inr (inl e)
    go (inr (_, ne)) rest =
        elim (rest (sym (get_or-set_other (marked marks js) j i true false ne) ∙ h)) [
          | inl k ↦ inl k
          | inr k ↦ inr (inr k)
        ]

in_marked : (marks : List Bool) (is : List ℕ) (i : ℕ) → i < length marks → IsIn i is → get_or (marked marks is) i false ≡ true
in_marked marks [] i lt h = absurd h
in_marked marks (j ∷ js) i lt h = go (eqb_tells i j) h (in_marked marks js i lt)
  where
    here : i ≡ j → get_or (set (marked marks js) j true) i false ≡ true
    here e = ap (λ k. get_or (set (marked marks js) k true) i false) (sym e) ∙ get_or-set_same (marked marks js) i true false (omega (arith, length-marked marks js))

    go : ((eqb i j ≡ true) × (i ≡ j)) ⊎ ((eqb i j ≡ false) × (i ≢ j)) → IsIn i (j ∷ js) → (IsIn i js → get_or (marked marks js) i false ≡ true) → get_or (marked marks (j ∷ js)) i false ≡ true
    go (inl (_, e)) k rest = here e
    go (inr (_, ne)) (inl e) rest = here e
    go (inr (_, ne)) (inr k) rest = get_or-set_other (marked marks js) j i true false ne ∙ rest k

none_set : (n i : ℕ) → get_or (replicate n false) i false ≡ true → ⊥
none_set n i h = go (nat_lt i n) refl
  where
    go : (b : Bool) → nat_lt i n ≡ b → ⊥
    go true e = let unset = get_or-replicate n i false false (ltb-true i n e) in cc
    go false e = let past = get_or_past (replicate n false) i false (omega (arith, length-replicate n false, ltb-false i n e)) in cc

-- the marks that are set at some indexes of a list of n
pub marks_at : (n : ℕ) (is : List ℕ) (marks : List Bool) → first_outside n is ≡ None → marks ≡ marked (replicate n false) is → AreMarksOf n is marks
marks_at n is marks none e = record {
  indexes = none;
  long = ap length e ∙ length-marked (replicate n false) is ∙ length-replicate n false;
  set_at = λ i. (
    λ h.
        elim (marked_in (replicate n false) is i (sym (ap (λ m. get_or m i false) e) ∙ h)) [
          | inl k ↦ absurd (none_set n i k)
          | inr k ↦ k
        ],
    λ h. ap (λ m. get_or m i false) e ∙ in_marked (replicate n false) is i (let lt = inside n is i none h in omega (arith, lt, length-replicate n false)) h,
  );
}

-- ---- all indexes

pub in_range : (k n i : ℕ) → k ≤ i → i < k + n → IsIn i (range_with_len k n)
in_range k zero i ge lt = absurd (omega (arith, ge, lt))
in_range k (suc n) i ge lt = go (nat_lt k i) refl (λ above. in_range (k + 1) n i (omega (arith, above)) (omega (arith, lt)))
  where
    go : (b : Bool) → nat_lt k i ≡ b → (k < i → IsIn i (range_with_len (k + 1) n)) → IsIn i (range_with_len k (suc n))
    go true e later = inr (later (ltb-true k i e))
    go false e later = let below = ltb-false k i e in inl (omega (arith, below, ge))

range_indexes : (m k n : ℕ) → k + n ≤ m → first_outside m (range_with_len k n) ≡ None
range_indexes m k zero le = refl
range_indexes m k (suc n) le =
    ap (λ b. cond b (first_outside m (range_with_len (k + 1) n)) (Some k)) (lt-ltb k m (omega (arith, le))) ∙ range_indexes m (k + 1) n (omega (arith, le))

-- marks that are all set
pub marks_of_all : (n : ℕ) (marks : List Bool) → marks ≡ replicate n true → AreMarksOf n (range_with_len 0 n) marks
marks_of_all n marks e = record {
  indexes = indexes;
  long = long;
  set_at = λ i. (
    λ h. in_range 0 n i (omega arith) (within i h (nat_lt i n) refl),
    λ h. ap (λ m. get_or m i false) e ∙ get_or-replicate n i true false (inside n (range_with_len 0 n) i indexes h),
  );
}
  where
    indexes : first_outside n (range_with_len 0 n) ≡ None
    indexes = range_indexes n 0 n (omega arith)

    long : length marks ≡ n
    long = ap length e ∙ length-replicate n true

    within : (i : ℕ) → get_or marks i false ≡ true → (b : Bool) → nat_lt i n ≡ b → i < 0 + n
    within i h true k = let lt = ltb-true i n k in omega (arith, lt)
    within i h false k = let past = get_or_past marks i false (omega (arith, long, ltb-false i n k)) in absurd cc
