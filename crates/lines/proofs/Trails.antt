-- What the faults of lists say: lists without a fault are lines and rings.
use Rattle.std.proofs.Common.{◌≡◌, ◌≤◌, Bool, true, false, cond, not, ◌&&◌, List, [], ◌∷◌, ◌++◌, length, ◌⊎◌, inl, inr, refl, sym, ap, ◌∙◌, subst, arith, Some, None, nat_lt, ◌↔◌}
use borrow.Author.Tests.{ltb-true, ltb-false}
use Rattle.std.specs.declared.cmp.Ordering.{Ordering}
use Rattle.std.specs.Cmp.{IsTotalOrder}
use Rattle.theory.proofs.JunctionTest.{same_vertex-equal, equal-same_vertex}
use Rattle.std.specs.FinMap.{IsAntisymmetric}
use Rattle.std.specs.List.{dedup_from}
use Rattle.theory.specs.Lists.{Begins, Beside, last_of, front_of}
use Rattle.theory.specs.LinesAndRings.{closed}
use Rattle.theory.specs.LinesAndRings.{Trail}
use Rattle.theory.specs.LinesAndRings.{IsLine, IsRing}
use Rattle.theory.specs.TopologyFunction.{same_vertex, same_sides}
use Rattle.lines.specs.Reading.{collapsed, is_closed, are_beside, repeats_from, repeats, opened, collapsed_line_fault, collapsed_ring_fault, line_fault, ring_fault}
use Rattle.lines.specs.declared.shape_fault.ShapeFault.TheVariants.{TooShort, NotClosed, Revisit}

-- some unordered pair of neighbours stands at two places
abbrev pub Repeats : {V : Type 0} → List V → Type 0
Repeats [] = ⊥
Repeats {V} (x ∷ l) = ((y : V) × Begins y l × Beside x y l) ⊎ Repeats l

-- neighbours differ
abbrev pub Apart : {V : Type 0} → List V → Type 0
Apart [] = Unit {0}
Apart {V} (x ∷ l) = ((y : V) → Begins y l → ¬ (x ≡ y)) × Apart l

either_true : (b r : Bool) → r ≡ true → cond b true r ≡ true
either_true true r e = refl
either_true false r e = e

-- all but the last, and the last
front_last : {V : Type 0} (y : V) (r : List V) → front_of y r ++ (last_of y r ∷ []) ≡ y ∷ r
front_last y [] = refl
front_last y (z ∷ r) = ap (λ w. y ∷ w) (front_last z r)

pub front_length : {V : Type 0} (x : V) (l : List V) → length (front_of x l) ≡ length l
front_length x [] = refl
front_length x (y ∷ l) = let e = front_length y l in omega arith

-- a list whose last repeats its first is closed
closing : {V : Type 0} (x : V) (l : List V) → x ≡ last_of x l → 1 ≤ length l → x ∷ l ≡ closed (front_of x l)
closing x [] e n = absurd (omega arith)
closing x (y ∷ r) e n = ap (λ w. x ∷ w) (sym (front_last y r) ∙ ap (λ w. front_of y r ++ (w ∷ [])) (sym e))

trail_from : {V : Type 0} (l : List V) → Apart l → ¬ Repeats l → Trail l
trail_from [] a n = tt
trail_from (x ∷ l) a n = ((λ y b. (a.0 y b, (λ h. n (inl (y, b, h))))), trail_from l a.1 (λ h. n (inr h)))

pub trail_once : {V : Type 0} (l : List V) → Trail l → ¬ Repeats l
trail_once [] t h = h
trail_once (x ∷ l) t (inl h) = (t.0 h.0 h.1).1 h.2
trail_once (x ∷ l) t (inr h) = trail_once l t.1 h

module _ {V : Type 0} (cmp : V → V → Ordering) (o : IsTotalOrder cmp) (same : IsAntisymmetric cmp) where
  joins_is : (a b c d : V) → same_sides cmp (a, b) (c, d) ≡ true → ((a ≡ c) × (b ≡ d)) ⊎ ((a ≡ d) × (b ≡ c))
  joins_is a b c d e = go (same_vertex cmp a c) refl (same_vertex cmp b d) refl (same_vertex cmp a d) refl (same_vertex cmp b c) refl e
    where
      go : (p : Bool) → same_vertex cmp a c ≡ p → (q : Bool) → same_vertex cmp b d ≡ q → (r : Bool) → same_vertex cmp a d ≡ r →
          (s : Bool) → same_vertex cmp b c ≡ s → cond (cond p q false) true (cond r s false) ≡ true → ((a ≡ c) × (b ≡ d)) ⊎ ((a ≡ d) × (b ≡ c))
      go true p true q r x s y f = inl (same_vertex-equal cmp o same a c p, same_vertex-equal cmp o same b d q)
      go true p false q true x true y f = inr (same_vertex-equal cmp o same a d x, same_vertex-equal cmp o same b c y)
      go false p q q' true x true y f = inr (same_vertex-equal cmp o same a d x, same_vertex-equal cmp o same b c y)
      go p p' q q' r x s y f = absurd cc

  is_joins : (a b c d : V) → ((a ≡ c) × (b ≡ d)) ⊎ ((a ≡ d) × (b ≡ c)) → same_sides cmp (a, b) (c, d) ≡ true
  is_joins a b c d (inl h) = rw (equal-same_vertex cmp o same a c h.0, equal-same_vertex cmp o same b d h.1) refl
  is_joins a b c d (inr h) = go (cond (same_vertex cmp a c) (same_vertex cmp b d) false)
    where
      go : (p : Bool) → cond p true (cond (same_vertex cmp a d) (same_vertex cmp b c) false) ≡ true
      go true = refl
      go false = rw (equal-same_vertex cmp o same a d h.0, equal-same_vertex cmp o same b c h.1) refl

  beside_means : (u v x : V) (l : List V) → are_beside cmp u v x l ≡ true → Beside u v (x ∷ l)
  beside_means u v x [] e = absurd cc
  beside_means u v x (y ∷ l) e = go (same_sides cmp (u, v) (x, y)) refl e (λ f. beside_means u v y l f)
    where
      go : (b : Bool) → same_sides cmp (u, v) (x, y) ≡ b → cond b true (are_beside cmp u v y l) ≡ true →
          (are_beside cmp u v y l ≡ true → Beside u v (y ∷ l)) → Beside u v (x ∷ (y ∷ l))
      go true p f ih = elim (joins_is u v x y p) [ inl k ↦ inl (inl (k.0, k.1)) | inr k ↦ inr (inl (k.1, k.0)) ]
      go false p f ih = elim (ih f) [ inl k ↦ inl (inr k) | inr k ↦ inr (inr k) ]

  if_beside : (u v x : V) (l : List V) → Beside u v (x ∷ l) → are_beside cmp u v x l ≡ true
  if_beside u v x [] (inl (inl h)) = absurd h.1
  if_beside u v x [] (inl (inr h)) = absurd h
  if_beside u v x [] (inr (inl h)) = absurd h.1
  if_beside u v x [] (inr (inr h)) = absurd h
  if_beside u v x (y ∷ l) (inl (inl h)) = rw (is_joins u v x y (inl (h.0, h.1))) refl
  if_beside u v x (y ∷ l) (inr (inl h)) = rw (is_joins u v x y (inr (h.1, h.0))) refl
  if_beside u v x (y ∷ l) (inl (inr h)) = either_true (same_sides cmp (u, v) (x, y)) (are_beside cmp u v y l) (if_beside u v y l (inl h))
  if_beside u v x (y ∷ l) (inr (inr h)) = either_true (same_sides cmp (u, v) (x, y)) (are_beside cmp u v y l) (if_beside u v y l (inr h))

  from_means : (x : V) (l : List V) → repeats_from cmp x l ≡ true → Repeats (x ∷ l)
  from_means x [] e = absurd cc
  from_means x (y ∷ l) e = go (are_beside cmp x y y l) refl e (λ f. from_means y l f)
    where
      go : (b : Bool) → are_beside cmp x y y l ≡ b → cond b true (repeats_from cmp y l) ≡ true →
          (repeats_from cmp y l ≡ true → Repeats (y ∷ l)) → Repeats (x ∷ (y ∷ l))
      go true p f ih = inl (y, refl, beside_means x y y l p)
      go false p f ih = inr (ih f)

  if_from : (x : V) (l : List V) → Repeats (x ∷ l) → repeats_from cmp x l ≡ true
  if_from x [] (inl h) = absurd h.1
  if_from x [] (inr h) = absurd h
  if_from x (y ∷ l) (inl h) = rw (if_beside x y y l (subst (λ w. Beside x w (y ∷ l)) h.1 h.2)) refl
  if_from x (y ∷ l) (inr h) = either_true (are_beside cmp x y y l) (repeats_from cmp y l) (if_from y l h)

  pub repeats_means : (l : List V) → repeats cmp l ≡ true → Repeats l
  repeats_means [] e = absurd cc
  repeats_means (x ∷ l) e = from_means x l e

  pub if_repeats : (l : List V) → Repeats l → repeats cmp l ≡ true
  if_repeats [] h = absurd h
  if_repeats (x ∷ l) h = if_from x l h

  pub never_repeats : (l : List V) → repeats cmp l ≡ false → ¬ Repeats l
  never_repeats l e h = absurd (let k : true ≡ false = sym (if_repeats l h) ∙ e in cc)

  pub once_means : (l : List V) → ¬ Repeats l → repeats cmp l ≡ false
  once_means l n = go (repeats cmp l) refl
    where
      go : (b : Bool) → repeats cmp l ≡ b → repeats cmp l ≡ false
      go true e = absurd (n (repeats_means l e))
      go false e = e

  -- what is left of k ∷ l begins with k, and neighbours differ
  kept : (k : V) (l : List V) → (r : List V) × (dedup_from (same_vertex cmp) k l ≡ k ∷ r) × Apart (k ∷ r)
  kept k [] = ([], refl, ((λ y b. absurd b), tt))
  kept k (x ∷ l) = go (same_vertex cmp x k) refl (kept k l) (kept x l)
    where
      go : (b : Bool) → same_vertex cmp x k ≡ b →
          ((r : List V) × (dedup_from (same_vertex cmp) k l ≡ k ∷ r) × Apart (k ∷ r)) →
          ((r : List V) × (dedup_from (same_vertex cmp) x l ≡ x ∷ r) × Apart (x ∷ r)) →
          (r : List V) × (cond b (dedup_from (same_vertex cmp) k l) (k ∷ dedup_from (same_vertex cmp) x l) ≡ k ∷ r) × Apart (k ∷ r)
      go true p a b = a
      go false p a b = (
        x ∷ b.0,
        ap (λ w. k ∷ w) b.1,
        ((λ y e q. absurd (let h : true ≡ false = sym (equal-same_vertex cmp o same x k (sym (q ∙ e))) ∙ p in cc)), b.2),
      )

  pub collapsed_apart : (l : List V) → Apart (collapsed cmp l)
  collapsed_apart [] = tt
  collapsed_apart (x ∷ l) = let t = kept x l in subst Apart (sym t.1) t.2

  line_judged : (c : List V) → Apart c → collapsed_line_fault cmp c ≡ None → IsLine c
  line_judged c a e = go (nat_lt (length c) 2) refl (is_closed cmp c && nat_lt (length c) 4) (repeats cmp c) refl e
    where
      go : (b : Bool) → nat_lt (length c) 2 ≡ b → (d : Bool) → (r : Bool) → repeats cmp c ≡ r →
          cond b (Some TooShort) (cond d (Some TooShort) (cond r (Some Revisit) None)) ≡ None → IsLine c
      go true p d r q f = absurd cc
      go false p true r q f = absurd cc
      go false p false true q f = absurd cc
      go false p false false q f = record { long = ltb-false (length c) 2 p; once = trail_from c a (never_repeats c q) }

  -- a list without a fault is a line
  pub line_accepted : (l : List V) → line_fault cmp l ≡ None → IsLine (collapsed cmp l)
  unfolding line_fault
  line_accepted l e = line_judged (collapsed cmp l) (collapsed_apart l) e

  line_not_short : (c : List V) → IsLine c → (is_closed cmp c && nat_lt (length c) 4) ≡ false
  line_not_short [] k = let n : 2 ≤ 0 = k.long in absurd (omega arith)
  line_not_short (x ∷ []) k = let n : 2 ≤ 1 = k.long in absurd (omega arith)
  line_not_short (x ∷ (y ∷ [])) k = go (same_vertex cmp x y) refl
    where
      go : (b : Bool) → same_vertex cmp x y ≡ b → (b && true) ≡ false
      go true p = absurd ((k.once.0 y refl).0 (same_vertex-equal cmp o same x y p))
      go false p = refl
  line_not_short (x ∷ (y ∷ (z ∷ []))) k = go (same_vertex cmp x z) refl
    where
      go : (b : Bool) → same_vertex cmp x z ≡ b → (b && true) ≡ false
      go true p = absurd ((k.once.0 y refl).1 (inr (inl (refl, same_vertex-equal cmp o same x z p))))
      go false p = refl
  line_not_short (x ∷ (y ∷ (z ∷ (w ∷ l)))) k = go (is_closed cmp (x ∷ (y ∷ (z ∷ (w ∷ l))))) (nat_lt (length (x ∷ (y ∷ (z ∷ (w ∷ l))))) 4) refl
    where
      go : (b d : Bool) → nat_lt (length (x ∷ (y ∷ (z ∷ (w ∷ l))))) 4 ≡ d → (b && d) ≡ false
      go true true p = let n = ltb-true (length (x ∷ (y ∷ (z ∷ (w ∷ l))))) 4 p in absurd (omega arith)
      go true false p = refl
      go false d p = refl

  line_faultless : (c : List V) → IsLine c → collapsed_line_fault cmp c ≡ None
  line_faultless c k = go (nat_lt (length c) 2) refl
    where
      go : (b : Bool) → nat_lt (length c) 2 ≡ b → cond b (Some TooShort) (cond (is_closed cmp c && nat_lt (length c) 4) (Some TooShort) (cond (repeats cmp c) (Some Revisit) None)) ≡ None
      go true p = let n = ltb-true (length c) 2 p in let m : 2 ≤ length c = k.long in absurd (omega arith)
      go false p = rw (line_not_short c k, once_means c (trail_once c k.once)) refl

  -- a list has no fault exactly where it is read as a line
  pub line_exact : (l : List V) → (line_fault cmp l ≡ None) ↔ IsLine (collapsed cmp l)
  unfolding line_fault
  line_exact l = (line_judged (collapsed cmp l) (collapsed_apart l), line_faultless (collapsed cmp l))

  -- a closed list, and its ring
  pub record Closes (c : List V) : Type 0 where
    pub is_ring : IsRing (opened c)
    pub is : c ≡ closed (opened c)

  ring_judged : (c : List V) → Apart c → collapsed_ring_fault cmp c ≡ None → Closes c
  ring_judged [] a e = absurd cc
  ring_judged (x ∷ l) a e = go (same_vertex cmp x (last_of x l)) refl (nat_lt (length (x ∷ l)) 4) refl (repeats cmp (x ∷ l)) refl e
    where
      go : (b : Bool) → same_vertex cmp x (last_of x l) ≡ b → (d : Bool) → nat_lt (length (x ∷ l)) 4 ≡ d → (r : Bool) → repeats cmp (x ∷ l) ≡ r →
          cond (not b) (Some NotClosed) (cond d (Some TooShort) (cond r (Some Revisit) None)) ≡ None → Closes (x ∷ l)
      go false p d s r q f = absurd cc
      go true p true s r q f = absurd cc
      go true p false s true q f = absurd cc
      go true p false s false q f =
          let n = ltb-false (length (x ∷ l)) 4 s in
          let k : x ∷ l ≡ closed (front_of x l) = closing x l (same_vertex-equal cmp o same x (last_of x l) p) (omega arith) in
          record {
            is_ring = record {
              long = (let m = front_length x l in omega arith);
              once = subst Trail k (trail_from (x ∷ l) a (never_repeats (x ∷ l) q));
            };
            is = k;
          }

  -- a list without a fault closes to a ring
  pub ring_accepted : (l : List V) → ring_fault cmp l ≡ None → Closes (collapsed cmp l)
  unfolding ring_fault
  ring_accepted l e = ring_judged (collapsed cmp l) (collapsed_apart l) e
