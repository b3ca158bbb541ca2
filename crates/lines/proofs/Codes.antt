-- Faults of lists, and rings, in the form of the code.
use Rattle.std.proofs.Common.{◌≡◌, ◌≤◌, ◌<◌, ◌-◌, ℕ, Bool, true, false, cond, not, ◌&&◌, ◌||◌, List, [], ◌∷◌, ◌++◌, length, take, drop, refl, sym, ap, ◌∙◌, subst, arith, Option, Some, None, nat_lt, slice_get, zero, suc, ◌==◌}
use Rattle.std.proofs.lemmas.Bool.{eqb-true}
use denote.Ref.{Bor}
use borrow.Author.Tests.{ltb-true, ltb-false}
use Rattle.std.specs.Option.{option_eq, option_copied}
use Rattle.std.proofs.Math.Seq.{take-append_seam}
use Rattle.std.proofs.lemmas.List.{length-append, take-append-drop}
use Rattle.grid.specs.declared.pos.Pos.{Pos}
use Rattle.grid.specs.contracts.pos.PosPartialEq.TheImpl as pos_eq
use Rattle.theory.specs.Lists.{last_of}
use Rattle.theory.specs.LinesAndRings.{closed}
use Rattle.theory.specs.Geometry.{AtMost}
use Rattle.theory.specs.LinesAndRings.{IsLine, IsRing, IsRotation}
use Rattle.theory.proofs.Rotations.{rotation_trans, rotation_ring}
use Rattle.lines.specs.Turned.{position_cmp, list_cmp, IsLeastRotation}
use Rattle.lines.specs.Reading.{collapsed, is_closed, repeats, opened, collapsed_line_fault, collapsed_ring_fault, line_fault, ring_fault, ring_of}
use Rattle.lines.specs.Windows.{IsLeastStart}
use Rattle.lines.specs.declared.shape_fault.ShapeFault.{ShapeFault}
use Rattle.lines.specs.declared.shape_fault.ShapeFault.TheVariants.{TooShort, NotClosed, Revisit}
use Rattle.lines.specs.Positions.{position_total, position_same}
use Rattle.lines.proofs.Positions.{derived_eq}
use Rattle.lines.proofs.Trails.{line_accepted, ring_accepted, Closes}
use Rattle.lines.proofs.Least.{least_turn, least_is}

-- the last element
last_get : {V : Type 0} (x : V) (l : List V) → slice_get (x ∷ l) (length l) ≡ Some (last_of x l)
last_get x [] = refl
last_get x (y ∷ l) = last_get y l

-- whether the first and the last are equal, as the code compares them
pub closes_means : (l : List Pos) (a b : Option (Bor Pos)) (r : Bool) → option_copied a ≡ slice_get l 0 → option_copied b ≡ slice_get l (length l - 1) →
    r ≡ option_eq (λ x y. pos_eq.eq-value.it x.now y.now) a b → r ≡ is_closed position_cmp l
closes_means [] None None r p q e = e
closes_means [] None (Some b) r p q e = absurd cc
closes_means [] (Some a) b r p q e = absurd cc
closes_means (x ∷ l) a b r p q e = go a b p (q ∙ ap (slice_get (x ∷ l)) k ∙ last_get x l) e
  where
    k : length (x ∷ l) - 1 ≡ length l
    k = omega arith

    go : (a b : Option (Bor Pos)) → option_copied a ≡ Some x → option_copied b ≡ Some (last_of x l) →
        r ≡ option_eq (λ x y. pos_eq.eq-value.it x.now y.now) a b → r ≡ is_closed position_cmp (x ∷ l)
    go None b p q e = absurd cc
    go (Some a) None p q e = absurd cc
    go (Some a) (Some b) p q e =
        let f : a.now ≡ x = cc in
        let g : b.now ≡ last_of x l = cc in
        e ∙ derived_eq a.now b.now ∙ (λ i. is_closed position_cmp (f i ∷ (g i ∷ [])))

small : (n k : ℕ) → n < k → nat_lt n k ≡ true
small n k h = go (nat_lt n k) refl
  where
    go : (b : Bool) → nat_lt n k ≡ b → nat_lt n k ≡ true
    go true e = e
    go false e = absurd (let l = ltb-false n k e in omega arith)

pub large : (n k : ℕ) → k ≤ n → nat_lt n k ≡ false
large n k h = go (nat_lt n k) refl
  where
    go : (b : Bool) → nat_lt n k ≡ b → nat_lt n k ≡ false
    go false e = e
    go true e = absurd (let l = ltb-true n k e in omega arith)

pub empty : (n : ℕ) → true ≡ (n == 0) → n ≡ 0
empty n e = eqb-true n 0 (sym e)

pub not_empty : (n : ℕ) → false ≡ (n == 0) → 1 ≤ n
not_empty zero e = absurd cc
not_empty (suc n) e = omega arith

-- too short for a line
abbrev pub is_short : List Pos → Bool
is_short c = nat_lt (length c) 2 || (is_closed position_cmp c && nat_lt (length c) 4)

module _ (l c : List Pos) (e : c ≡ collapsed position_cmp l) where
  as_line : line_fault position_cmp l ≡ collapsed_line_fault position_cmp c
  unfolding line_fault
  as_line = ap (collapsed_line_fault position_cmp) (sym e)

  -- whether it is too short, and whether a segment stands twice, tell the fault
  pub line_says : (short again : Bool) → short ≡ is_short c → again ≡ repeats position_cmp c →
      line_fault position_cmp l ≡ cond short (Some TooShort) (cond again (Some Revisit) None)
  line_says short again p q =
      as_line ∙ either (nat_lt (length c) 2) (is_closed position_cmp c && nat_lt (length c) 4) (Some TooShort) (cond (repeats position_cmp c) (Some Revisit) None)
      ∙ rw (p, q) refl
    where
      either : (b d : Bool) (x y : Option ShapeFault) → cond b x (cond d x y) ≡ cond (b || d) x y
      either true d x y = refl
      either false d x y = refl

  pub line_is : line_fault position_cmp l ≡ None → IsLine c
  line_is f = subst IsLine (sym e) (line_accepted position_cmp position_total position_same l f)

  as_ring : ring_fault position_cmp l ≡ collapsed_ring_fault position_cmp c
  unfolding ring_fault
  as_ring = ap (collapsed_ring_fault position_cmp) (sym e)

  pub ring_empty : length c ≡ 0 → ring_fault position_cmp l ≡ Some TooShort
  ring_empty n = as_ring ∙ go c n
    where
      go : (c : List Pos) → length c ≡ 0 → collapsed_ring_fault position_cmp c ≡ Some TooShort
      go [] n = refl
      go (x ∷ d) n = absurd (omega arith)

  -- where the list is not empty
  pub ring_says : 1 ≤ length c → (b d r : Bool) → b ≡ is_closed position_cmp c → d ≡ nat_lt (length c) 4 → r ≡ repeats position_cmp c →
      ring_fault position_cmp l ≡ cond (not b) (Some NotClosed) (cond d (Some TooShort) (cond r (Some Revisit) None))
  ring_says n b d r p q s = as_ring ∙ go c n b d r p q s
    where
      go : (c : List Pos) → 1 ≤ length c → (b d r : Bool) → b ≡ is_closed position_cmp c → d ≡ nat_lt (length c) 4 → r ≡ repeats position_cmp c →
          collapsed_ring_fault position_cmp c ≡ cond (not b) (Some NotClosed) (cond d (Some TooShort) (cond r (Some Revisit) None))
      go [] n b d r p q s = absurd (omega arith)
      go (x ∷ c) n b d r p q s =
          let p' = sym p in
          let q' = sym q in
          let s' = sym s in
          λ i. cond (not (p' i)) (Some NotClosed) (cond (q' i) (Some TooShort) (cond (s' i) (Some Revisit) None))

  pub ring_open : 1 ≤ length c → false ≡ is_closed position_cmp c → ring_fault position_cmp l ≡ Some NotClosed
  ring_open n p = ring_says n false (nat_lt (length c) 4) (repeats position_cmp c) p refl refl

  pub ring_short : 1 ≤ length c → true ≡ is_closed position_cmp c → length c < 4 → ring_fault position_cmp l ≡ Some TooShort
  ring_short n p m = ring_says n true true (repeats position_cmp c) p (sym (small (length c) 4 m)) refl

  pub ring_again : true ≡ is_closed position_cmp c → 4 ≤ length c → true ≡ repeats position_cmp c → ring_fault position_cmp l ≡ Some Revisit
  ring_again p m s = ring_says (omega arith) true false true p (sym (large (length c) 4 m)) s

  pub ring_good : true ≡ is_closed position_cmp c → 4 ≤ length c → false ≡ repeats position_cmp c → ring_fault position_cmp l ≡ None
  ring_good p m s = ring_says (omega arith) true false false p (sym (large (length c) 4 m)) s

-- a closed list without its last
take_closed : {V : Type 0} (f : List V) → take (length (closed f) - 1) (closed f) ≡ f
take_closed [] = refl
take_closed (x ∷ l) =
    let k : length (closed (x ∷ l)) - 1 ≡ length (x ∷ l) = omega (arith, length-append l (x ∷ [])) in
    subst (λ n. take n (closed (x ∷ l)) ≡ x ∷ l) (sym k) (ap (λ w. x ∷ w) (take-append_seam l (x ∷ [])))

-- a closed list without a fault has four places or more
pub ring_long : (l c : List Pos) → c ≡ collapsed position_cmp l → ring_fault position_cmp l ≡ None → 4 ≤ length c
ring_long l c e n =
    let closes = ring_accepted position_cmp position_total position_same l n in
    let k : 3 ≤ length (opened (collapsed position_cmp l)) = closes.is_ring.long in
    subst (λ w. 4 ≤ length w) (sym (e ∙ closes.is)) (longer (opened (collapsed position_cmp l)) k)
  where
    longer : (f : List Pos) → 3 ≤ length f → 4 ≤ length (closed f)
    longer [] k = absurd (omega (arith, k))
    longer (x ∷ f) k = omega (arith, k, length-append f (x ∷ []))

-- what the code makes of a closed list
pub record IsRingOf (l r : List Pos) : Type 0 where
  pub is_ring : IsRing r
  pub least : IsLeastRotation r
  pub is : r ≡ ring_of position_cmp l

pub ring_made : (l c r : List Pos) (i : ℕ) → c ≡ collapsed position_cmp l → ring_fault position_cmp l ≡ None → IsLeastStart position_cmp c i →
    r ≡ drop i (take (length c - 1) c) ++ take i (take (length c - 1) c) → IsRingOf l r
unfolding ring_of
ring_made l c r i e n start made = record {
  is_ring = ring;
  least = λ m p. least m (rotation_trans f r m q p);
  is = least_is position_cmp position_total position_same f r (let k : 3 ≤ length r = ring.long in omega arith) q least;
}
  where
    f : List Pos
    f = opened (collapsed position_cmp l)

    closes : Closes position_cmp position_total position_same (collapsed position_cmp l)
    closes = ring_accepted position_cmp position_total position_same l n

    is_closed_list : c ≡ closed f
    is_closed_list = e ∙ closes.is

    front : take (length c - 1) c ≡ f
    front = subst (λ w. take (length w - 1) w ≡ f) (sym is_closed_list) (take_closed f)

    turned : r ≡ drop i f ++ take i f
    turned = made ∙ (λ j. drop i (front j) ++ take i (front j))

    q : IsRotation f r
    q = (take i f, drop i f, sym (take-append-drop i f), turned)

    ring : IsRing r
    ring = rotation_ring f r q closes.is_ring

    least : (m : List Pos) → IsRotation f m → AtMost (list_cmp) r m
    least m p =
        subst (λ w. AtMost list_cmp w m) (sym turned)
        (least_turn position_cmp position_total position_same f i closes.is_ring (subst (λ w. IsLeastStart position_cmp w i) is_closed_list start) m p)

-- the same, cut short and then turned
pub ring_by_code : (l c t u r : List Pos) (i n : ℕ) → c ≡ collapsed position_cmp l → ring_fault position_cmp l ≡ None → IsLeastStart position_cmp c i →
    n ≡ length c → t ≡ take (n - 1) c → u ≡ drop i t ++ take i t → r ≡ u → IsRingOf l r
ring_by_code l c t u r i n e f start long cut turned is =
    let s : t ≡ take (length c - 1) c = subst (λ m. t ≡ take (m - 1) c) long cut in
    ring_made l c r i e f start (is ∙ turned ∙ (λ j. drop i (s j) ++ take i (s j)))
