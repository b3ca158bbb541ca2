-- How many segments used arcs have, and arcs that are used twice.
use borrow.Author.Tests.{ltb-true, ltb-false}
use Rattle.std.proofs.Common.{◌≡◌, ◌≤◌, ◌<◌, ◌-◌, ℕ, Bool, true, false, cond, nat_lt, ◌&&◌, List, [], ◌∷◌, ◌++◌, length, inl, inr, refl, sym, ap, ◌∙◌, subst, arith, Option, Some, None, slice_get}
use Rattle.std.proofs.lemmas.List.{length-append}
use Rattle.grid.specs.declared.pos.Pos.{Pos}
use Rattle.lines.specs.Positions.{position_total, position_same}
use Rattle.lines.specs.Reading.{collapsed, collapsed_line_fault, collapsed_ring_fault, is_closed, line_fault, repeats, ring_fault}
use Rattle.lines.specs.Turned.{position_cmp}
use Rattle.lines.specs.declared.shape_fault.ShapeFault.{ShapeFault}
use Rattle.lines.specs.declared.shape_fault.ShapeFault.TheVariants.{NotClosed, Revisit, TooShort}
use Rattle.lines.proofs.Doubles.{Doubled}
use Rattle.lines.proofs.Trails.{Repeats, if_repeats}
use Rattle.theory.proofs.JunctionTest.{equal-same_vertex, same_vertex-equal}
use Rattle.theory.proofs.Lists.{Steps-over}
use Rattle.theory.proofs.Reversing.{beside_same, same_beside}
use Rattle.theory.specs.ArcNumbers.{ArcRef, StitchFrom}
use Rattle.theory.specs.Lists.{Beside, Has, Steps, last_of}
use Rattle.theory.specs.TopologyFunction.{same_vertex}
use Rattle.normalize.specs.ArcLists.Lists.{count_if, kept, more_if, number_of, numbers_of, segment_count, segments_in}
use Rattle.normalize.specs.ArcLists.Summaries.{AreSummaries}
use Rattle.normalize.specs.declared.arc_lists.summaries.ArcSummary.{ArcSummary}
use Rattle.normalize.proofs.ArcListsLemmas.Collapsing.{after, after_join, after_last, collapsed_after}
use Rattle.normalize.proofs.ArcListsLemmas.Trails.{KnownArc, known_along, same_length}

-- ---- lists

-- a segment of the one list that is in the one behind it stands twice
repeats_join : (u v x : Pos) (q s : List Pos) → Steps u v (x ∷ q) → Beside u v (last_of x q ∷ s) → Repeats (x ∷ (q ++ s))
repeats_join u v x [] s (inl h) b = absurd h.1
repeats_join u v x [] s (inr h) b = absurd h
repeats_join u v x (y ∷ q) s (inl h) b = inl (y, refl, subst (λ z. Beside x z (y ∷ (q ++ s))) h.1 (subst (λ z. Beside z v (y ∷ (q ++ s))) h.0 (over b)))
  where
    over : Beside u v (last_of y q ∷ s) → Beside u v (y ∷ (q ++ s))
    over (inl k) = inl (Steps-over u v y q s k)
    over (inr k) = inr (Steps-over v u y q s k)
repeats_join u v x (y ∷ q) s (inr h) b = inr (repeats_join u v y q s h b)

repeats_right : (x : Pos) (q s : List Pos) → Repeats (last_of x q ∷ s) → Repeats (x ∷ (q ++ s))
repeats_right x [] s h = h
repeats_right x (y ∷ q) s h = inr (repeats_right y q s h)

beside_right : (u v x : Pos) (q s : List Pos) → Beside u v (last_of x q ∷ s) → Beside u v (x ∷ (q ++ s))
beside_right u v x q s (inl k) = inl (Steps-over u v x q s k)
beside_right u v x q s (inr k) = inr (Steps-over v u x q s k)

first_step : (x : Pos) (q : List Pos) → 1 ≤ length q → (v : Pos) × Steps x v (x ∷ q)
first_step x [] h = absurd (omega (arith, h))
first_step x (y ∷ q) h = (y, inl (refl, refl))

beside_left : (u v x : Pos) (q s : List Pos) → Beside u v (x ∷ q) → Beside u v (x ∷ (q ++ s))
beside_left u v x q s (inl h) = inl (steps_left u v x q s h)
  where
    steps_left : (u v x : Pos) (q s : List Pos) → Steps u v (x ∷ q) → Steps u v (x ∷ (q ++ s))
    steps_left u v x [] s (inl h) = absurd h.1
    steps_left u v x [] s (inr h) = absurd h
    steps_left u v x (y ∷ q) s (inl h) = inl h
    steps_left u v x (y ∷ q) s (inr h) = inr (steps_left u v y q s h)
beside_left u v x q s (inr h) = inr (steps_left v u x q s h)
  where
    steps_left : (u v x : Pos) (q s : List Pos) → Steps u v (x ∷ q) → Steps u v (x ∷ (q ++ s))
    steps_left u v x [] s (inl h) = absurd h.1
    steps_left u v x [] s (inr h) = absurd h
    steps_left u v x (y ∷ q) s (inl h) = inl h
    steps_left u v x (y ∷ q) s (inr h) = inr (steps_left u v y q s h)

none_if_short : (l : List Pos) → length l ≤ 0 → l ≡ []
none_if_short [] h = refl
none_if_short (x ∷ l) h = absurd (omega (arith, h))

module _ (arcs : List (List Pos)) (ss : List ArcSummary) (known : AreSummaries arcs ss) where
  abbrev Is : ArcRef → List Pos → Type 0
  Is = KnownArc arcs ss known

  -- how many segments a used arc has
  arc_count : (a : ArcRef) (x : Pos) (q : List Pos) → Is a (x ∷ q) → segments_in ss a ≡ length (after x q)
  arc_count a x q k =
      let e : k.1.count ≡ length (collapsed position_cmp (x ∷ q)) = k.4.0 ∙ sym (same_length (collapsed position_cmp (x ∷ q)) (collapsed position_cmp k.0) k.5) in
      let c = ap length (collapsed_after x q) in
      let n : k.1.count - 1 ≡ length (after x q) = omega (arith, e, c) in
      ap count_if k.3 ∙ n

  pub stitched_count : (used : List ArcRef) (x : Pos) (r : List Pos) → StitchFrom arcs x used r → length (after x r) ≡ segment_count ss used
  stitched_count [] x r h = ap (λ w. length (after x w)) h
  stitched_count (a ∷ more) x r h =
      let q : List Pos = h.0 in
      let s : List Pos = h.1 in
      let e : length (after x r) ≡ length (after x q ++ after (last_of x q) s) = ap length (ap (after x) h.3 ∙ after_join x q s) in
      let m = length-append (after x q) (after (last_of x q) s) in
      let k = arc_count a x q (known_along arcs ss known a (x ∷ q) h.2) in
      let n = stitched_count more (last_of x q) s h.4 in
      omega (arith, e, m, k, n)

  -- an arc that is among those with a segment has its segments in what the arcs stitch to
  used_has : (used : List ArcRef) (x : Pos) (r : List Pos) → StitchFrom arcs x used r → (n : ℕ) (d : List Pos) → slice_get arcs n ≡ Some d → Has n (numbers_of ss used) →
      (u v : Pos) → Beside u v (collapsed position_cmp d) → Beside u v (x ∷ after x r)
  used_has [] x r h n d e i u v b = absurd i
  used_has (a ∷ more) x r h n d e i u v b =
      let k = known_along arcs ss known a (x ∷ h.0) h.2 in
      subst (λ w. Beside u v (x ∷ w)) (sym (ap (after x) h.3 ∙ after_join x h.0 h.1))
      (go (number_of ss a) (λ j. one (nat_lt 1 k.1.count) (subst (λ t. Has n (cond t (a.arc ∷ []) [])) (ap more_if k.3) j)) i
      (λ j. used_has more (last_of x h.0) h.1 h.4 n d e j u v b))
    where
      one : (t : Bool) → Has n (cond t (a.arc ∷ []) []) → n ≡ a.arc
      one true (inl f) = f
      one true (inr f) = absurd f
      one false f = absurd f

      go : (own : List ℕ) → (Has n own → n ≡ a.arc) → Has n (own ++ numbers_of ss more) →
          (Has n (numbers_of ss more) → Beside u v (last_of x h.0 ∷ after (last_of x h.0) h.1)) → Beside u v (x ∷ (after x h.0 ++ after (last_of x h.0) h.1))
      go [] f j ih =
          beside_right u v x (after x h.0) (after (last_of x h.0) h.1) (subst (λ z. Beside u v (z ∷ after (last_of x h.0) h.1)) (sym (after_last x h.0)) (ih j))
      go (m ∷ own) f (inl j) ih =
          let k = known_along arcs ss known a (x ∷ h.0) h.2 in
          let p : Some d ≡ Some k.0 = sym e ∙ ap (slice_get arcs) (f (inl j)) ∙ k.2 in
          let same : d ≡ k.0 = cc in
          beside_left u v x (after x h.0) (after (last_of x h.0) h.1)
          (subst (Beside u v) (collapsed_after x h.0) (beside_same u v (collapsed position_cmp (x ∷ h.0)) (collapsed position_cmp k.0) k.5 (subst (λ w. Beside u v (collapsed position_cmp w)) same b)))
      go (m ∷ own) f (inr j) ih = go own (λ i. f (inr i)) j ih

  -- where an arc with a segment is used twice, a segment stands twice
  pub used_twice : (used : List ArcRef) (x : Pos) (r : List Pos) → StitchFrom arcs x used r → Doubled (numbers_of ss used) → Repeats (x ∷ after x r)
  used_twice [] x r h d = absurd d
  used_twice (a ∷ more) x r h d =
      subst (λ w. Repeats (x ∷ w)) (sym (ap (after x) h.3 ∙ after_join x h.0 h.1)) (go (nat_lt 1 k.1.count) refl (subst (λ t. Doubled (cond t (a.arc ∷ []) [] ++ numbers_of ss more)) (ap more_if k.3) d) (λ j. used_twice more (last_of x h.0) h.1 h.4 j))
    where
      k : Is a (x ∷ h.0)
      k = known_along arcs ss known a (x ∷ h.0) h.2

      behind : (Doubled (numbers_of ss more) → Repeats (last_of x h.0 ∷ after (last_of x h.0) h.1)) → Doubled (numbers_of ss more) →
          Repeats (x ∷ (after x h.0 ++ after (last_of x h.0) h.1))
      behind ih j =
          repeats_right x (after x h.0) (after (last_of x h.0) h.1) (subst (λ z. Repeats (z ∷ after (last_of x h.0) h.1)) (sym (after_last x h.0)) (ih j))

      long : nat_lt 1 k.1.count ≡ true → 1 ≤ length (after x h.0)
      long e =
          let n : 1 < k.1.count = ltb-true 1 k.1.count e in
          let c = arc_count a x h.0 k in
          let f : segments_in ss a ≡ k.1.count - 1 = ap count_if k.3 in
          omega (arith, n, c, f)

      go : (t : Bool) → nat_lt 1 k.1.count ≡ t → Doubled (cond t (a.arc ∷ []) [] ++ numbers_of ss more) →
          (Doubled (numbers_of ss more) → Repeats (last_of x h.0 ∷ after (last_of x h.0) h.1)) → Repeats (x ∷ (after x h.0 ++ after (last_of x h.0) h.1))
      go false e j ih = behind ih j
      go true e (inr j) ih = behind ih j
      go true e (inl j) ih =
          let t = first_step x (after x h.0) (long e) in
          let b : Beside x t.0 (collapsed position_cmp k.0) =
          same_beside x t.0 (collapsed position_cmp (x ∷ h.0)) (collapsed position_cmp k.0) k.5 (subst (Beside x t.0) (sym (collapsed_after x h.0)) (inl t.1)) in
          repeats_join x t.0 x (after x h.0) (after (last_of x h.0) h.1) t.1
          (subst (λ z. Beside x t.0 (z ∷ after (last_of x h.0) h.1)) (sym (after_last x h.0))
          (used_has more (last_of x h.0) h.1 h.4 a.arc k.0 k.2 j x t.0 b))

  -- arcs without a segment may be left out
  pub kept_stitch : (used : List ArcRef) (x : Pos) (r : List Pos) → StitchFrom arcs x used r → (s : List Pos) × StitchFrom arcs x (kept ss used) s × (after x s ≡ after x r)
  kept_stitch [] x r h = (r, h, refl)
  kept_stitch (a ∷ more) x r h = go (nat_lt 1 k.1.count) refl (kept_stitch more (last_of x h.0) h.1 h.4)
    where
      k : Is a (x ∷ h.0)
      k = known_along arcs ss known a (x ∷ h.0) h.2

      whole : after x r ≡ after x h.0 ++ after (last_of x h.0) h.1
      whole = ap (after x) h.3 ∙ after_join x h.0 h.1

      one : (t : Bool) → nat_lt 1 k.1.count ≡ t → kept ss (a ∷ more) ≡ cond t (a ∷ kept ss more) (kept ss more)
      one t e = ap (λ b. cond b (a ∷ kept ss more) (kept ss more)) (ap more_if k.3 ∙ e)

      go : (t : Bool) → nat_lt 1 k.1.count ≡ t → ((s : List Pos) × StitchFrom arcs (last_of x h.0) (kept ss more) s × (after (last_of x h.0) s ≡ after (last_of x h.0) h.1)) →
          (s : List Pos) × StitchFrom arcs x (kept ss (a ∷ more)) s × (after x s ≡ after x r)
      go true e ih = (
        h.0 ++ ih.0,
        subst (λ w. StitchFrom arcs x w (h.0 ++ ih.0)) (sym (one true e)) (h.0, ih.0, h.2, refl, ih.1),
        after_join x h.0 ih.0 ∙ ap (λ w. after x h.0 ++ w) ih.2 ∙ sym whole,
      )
      go false e ih =
          let n : k.1.count ≤ 1 = ltb-false 1 k.1.count e in
          let c = arc_count a x h.0 k in
          let f : segments_in ss a ≡ k.1.count - 1 = ap count_if k.3 in
          let none : after x h.0 ≡ [] = none_if_short (after x h.0) (omega (arith, n, c, f)) in
          let stay : last_of x h.0 ≡ x = sym (after_last x h.0) ∙ ap (last_of x) none in (
            ih.0,
            subst (λ w. StitchFrom arcs x w ih.0) (sym (one false e)) (subst (λ z. StitchFrom arcs z (kept ss more) ih.0) stay ih.1),
            subst (λ z. after z ih.0 ≡ after z h.1) stay ih.2 ∙ sym (whole ∙ (λ i. none i ++ after (stay i) h.1)),
          )

-- ---- faults

closed_means : (x w : Pos) (l : List Pos) → last_of x l ≡ w → x ≡ w → is_closed position_cmp (x ∷ l) ≡ true
closed_means x w l e f = equal-same_vertex position_cmp position_total position_same x (last_of x l) (f ∙ sym e)

open_means : (x w : Pos) (l : List Pos) → last_of x l ≡ w → ¬ (x ≡ w) → is_closed position_cmp (x ∷ l) ≡ false
open_means x w l e n = go (same_vertex position_cmp x (last_of x l)) refl
  where
    go : (b : Bool) → same_vertex position_cmp x (last_of x l) ≡ b → same_vertex position_cmp x (last_of x l) ≡ false
    go false p = p
    go true p = absurd (n (same_vertex-equal position_cmp position_total position_same x (last_of x l) p ∙ e))

less_means : (m n : ℕ) → m < n → nat_lt m n ≡ true
less_means m n h = go (nat_lt m n) refl
  where
    go : (b : Bool) → nat_lt m n ≡ b → nat_lt m n ≡ true
    go true e = e
    go false e = absurd (let k : n ≤ m = ltb-false m n e in omega (arith, h, k))

not_less_means : (m n : ℕ) → n ≤ m → nat_lt m n ≡ false
not_less_means m n h = go (nat_lt m n) refl
  where
    go : (b : Bool) → nat_lt m n ≡ b → nat_lt m n ≡ false
    go false e = e
    go true e = absurd (let k : m < n = ltb-true m n e in omega (arith, h, k))

module _ (v w : Pos) (r : List Pos) (ends : last_of v r ≡ w) (n : ℕ) (count : length (after v r) ≡ n) where
  far : last_of v (after v r) ≡ w
  far = after_last v r ∙ ends

  pub line_empty : n < 1 → line_fault position_cmp (v ∷ r) ≡ Some TooShort
  unfolding line_fault
  line_empty h =
      ap (collapsed_line_fault position_cmp) (collapsed_after v r)
      ∙ go (nat_lt (length (v ∷ after v r)) 2) (less_means (length (v ∷ after v r)) 2 (omega (arith, h, count)))
      (cond (is_closed position_cmp (v ∷ after v r) && nat_lt (length (v ∷ after v r)) 4) (Some TooShort) (cond (repeats position_cmp (v ∷ after v r)) (Some Revisit) None))
    where
      go : (b : Bool) → b ≡ true → (o : Option ShapeFault) → cond b (Some TooShort) o ≡ Some TooShort
      go true e o = refl
      go false e o = absurd cc

  pub line_short : v ≡ w → n < 3 → line_fault position_cmp (v ∷ r) ≡ Some TooShort
  unfolding line_fault
  line_short e h = ap (collapsed_line_fault position_cmp) (collapsed_after v r) ∙ go (nat_lt (length (v ∷ after v r)) 2)
    where
      go : (a : Bool) → cond a (Some TooShort) (cond (is_closed position_cmp (v ∷ after v r) && nat_lt (length (v ∷ after v r)) 4) (Some TooShort) (cond (repeats position_cmp (v ∷ after v r)) (Some Revisit) None)) ≡ Some TooShort
      go true = refl
      go false = rw (closed_means v w (after v r) far e, less_means (length (v ∷ after v r)) 4 (omega (arith, h, count))) refl

  pub line_twice : 3 ≤ n → Repeats (v ∷ after v r) → line_fault position_cmp (v ∷ r) ≡ Some Revisit
  unfolding line_fault
  line_twice h d =
      ap (collapsed_line_fault position_cmp) (collapsed_after v r)
      ∙ go (nat_lt (length (v ∷ after v r)) 2) (not_less_means (length (v ∷ after v r)) 2 (omega (arith, h, count)))
      (is_closed position_cmp (v ∷ after v r)) (nat_lt (length (v ∷ after v r)) 4) (not_less_means (length (v ∷ after v r)) 4 (omega (arith, h, count)))
      (repeats position_cmp (v ∷ after v r)) (if_repeats position_cmp position_total position_same (v ∷ after v r) d)
    where
      go : (a : Bool) → a ≡ false → (b c : Bool) → c ≡ false → (d : Bool) → d ≡ true → cond a (Some TooShort) (cond (b && c) (Some TooShort) (cond d (Some Revisit) None)) ≡ Some Revisit
      go true e b c f d g = absurd cc
      go false e b true f d g = absurd cc
      go false e b false f false g = absurd cc
      go false e true false f true g = refl
      go false e false false f true g = refl

  pub ring_open : ¬ (v ≡ w) → ring_fault position_cmp (v ∷ r) ≡ Some NotClosed
  unfolding ring_fault
  ring_open e = ap (collapsed_ring_fault position_cmp) (collapsed_after v r) ∙ rw (open_means v w (after v r) far e) refl

  pub ring_short : v ≡ w → n < 3 → ring_fault position_cmp (v ∷ r) ≡ Some TooShort
  unfolding ring_fault
  ring_short e h =
      ap (collapsed_ring_fault position_cmp) (collapsed_after v r)
      ∙ rw (closed_means v w (after v r) far e, less_means (length (v ∷ after v r)) 4 (omega (arith, h, count))) refl

  pub ring_twice : v ≡ w → 3 ≤ n → Repeats (v ∷ after v r) → ring_fault position_cmp (v ∷ r) ≡ Some Revisit
  unfolding ring_fault
  ring_twice e h d =
      ap (collapsed_ring_fault position_cmp) (collapsed_after v r)
      ∙ rw (
        closed_means v w (after v r) far e,
        not_less_means (length (v ∷ after v r)) 4 (omega (arith, h, count)),
        if_repeats position_cmp position_total position_same (v ∷ after v r) d,
      ) refl
