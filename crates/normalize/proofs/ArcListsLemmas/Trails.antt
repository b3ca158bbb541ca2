-- Used arcs that are simple and have labels of their own stitch to lists in which no segment stands twice.
use Rattle.std.proofs.Common.{◌≡◌, ◌≤◌, ◌<◌, ℕ, zero, suc, Bool, true, false, cond, not, ◌&&◌, nat_lt, List, [], ◌∷◌, ◌++◌, length, ◌⊎◌, inl, inr, refl, sym, ap, ◌∙◌, subst, arith, Some, None, slice_get}
use borrow.Author.Tests.{ltb-true, ltb-false}
use Rattle.std.proofs.lemmas.List.{length-append, length-reverse}
use Rattle.grid.specs.declared.pos.Pos.{Pos}
use Rattle.lines.specs.Positions.{position_total, position_same}
use Rattle.lines.specs.Reading.{collapsed, collapsed_line_fault, collapsed_ring_fault, is_closed, line_fault, repeats, ring_fault}
use Rattle.lines.specs.Turned.{position_cmp}
use Rattle.lines.specs.declared.shape_fault.ShapeFault.TheVariants.{NotClosed, Revisit, TooShort}
use Rattle.lines.proofs.Trails.{line_exact}
use Rattle.theory.proofs.JunctionTest.{equal-same_vertex}
use Rattle.theory.proofs.Lists.{Has-append_left, Has-append_right, Steps-join}
use Rattle.theory.proofs.Reversing.{same_beside}
use Rattle.theory.proofs.ValidMaps.{along_same}
use Rattle.theory.proofs.ValidReads.{runs_stitch}
use Rattle.theory.specs.ArcNumbers.{ArcRef, StitchFrom, StitchTo, along}
use Rattle.theory.specs.Chain.{SameArc}
use Rattle.theory.specs.LinesAndRings.{IsLine, Trail}
use Rattle.theory.specs.Lists.{Beside, Distinct, Has, last_of}
use Rattle.theory.specs.Validity.{Runs}
use Rattle.normalize.specs.ArcLists.Labels.{ShareLabels, label_at}
use Rattle.normalize.specs.ArcLists.Lists.{StitchToFault, are_simple, is_simple, label_of, labels_of, more_if, simple_if}
use Rattle.normalize.specs.ArcLists.Summaries.{AreSummaries, IsSummary}
use Rattle.normalize.specs.declared.arc_lists.summaries.ArcSummary.{ArcSummary}
use Rattle.normalize.proofs.ArcListsLemmas.Collapsing.{Trail-behind, Trail-reverse, after, after_join, after_last, collapsed-reverse, collapsed_after}

-- ---- lists

Distinct_right : {A : Type 0} (s t : List A) → Distinct (s ++ t) → Distinct t
Distinct_right [] t d = d
Distinct_right (x ∷ s) t d = Distinct_right s t d.1

beside_long : (u v : Pos) (l : List Pos) → Beside u v l → 2 ≤ length l
beside_long u v [] (inl h) = absurd h
beside_long u v [] (inr h) = absurd h
beside_long u v (x ∷ []) (inl (inl h)) = absurd h.1
beside_long u v (x ∷ []) (inl (inr h)) = absurd h
beside_long u v (x ∷ []) (inr (inl h)) = absurd h.1
beside_long u v (x ∷ []) (inr (inr h)) = absurd h
beside_long u v (x ∷ (y ∷ l)) h = omega arith

beside_join : (u v x : Pos) (q s : List Pos) → Beside u v (x ∷ (q ++ s)) → Beside u v (x ∷ q) ⊎ Beside u v (last_of x q ∷ s)
beside_join u v x q s (inl h) = elim (Steps-join u v x q s h) [ inl k ↦ inl (inl k) | inr k ↦ inr (inl k) ]
beside_join u v x q s (inr h) = elim (Steps-join v u x q s h) [ inl k ↦ inl (inr k) | inr k ↦ inr (inr k) ]

same_collapsed : (c d : List Pos) → SameArc c d → SameArc (collapsed position_cmp c) (collapsed position_cmp d)
same_collapsed c d (inl e) = inl (ap (collapsed position_cmp) e)
same_collapsed c d (inr e) = inr (ap (collapsed position_cmp) e ∙ collapsed-reverse d)

same_trail : (c d : List Pos) → SameArc c d → Trail d → Trail c
same_trail c d (inl e) t = subst Trail (sym e) t
same_trail c d (inr e) t = subst Trail (sym e) (Trail-reverse d t)

pub same_length : (c d : List Pos) → SameArc c d → length c ≡ length d
same_length c d (inl e) = ap length e
same_length c d (inr e) = ap length e ∙ length-reverse d

-- ---- what is known of an arc

summary_at : (arcs : List (List Pos)) (ss : List ArcSummary) → AreSummaries arcs ss → (i : ℕ) (c : List Pos) → slice_get arcs i ≡ Some c →
    (s : ArcSummary) × (slice_get ss i ≡ Some s) × IsSummary c s
summary_at [] ss h i c e = absurd cc
summary_at (d ∷ arcs) [] h i c e = absurd h
summary_at (d ∷ arcs) (s ∷ ss) h zero c e = let k : d ≡ c = cc in (s, refl, subst (λ w. IsSummary w s) k h.0)
summary_at (d ∷ arcs) (s ∷ ss) h (suc i) c e = summary_at arcs ss h.1 i c e

pub more_than_one : (n : ℕ) → 2 ≤ n → nat_lt 1 n ≡ true
more_than_one n h = go (nat_lt 1 n) refl
  where
    go : (b : Bool) → nat_lt 1 n ≡ b → nat_lt 1 n ≡ true
    go true e = e
    go false e = absurd (let k : n ≤ 1 = ltb-false 1 n e in omega (arith, h, k))

module _ (arcs : List (List Pos)) (ss : List ArcSummary) (known : AreSummaries arcs ss) where
  -- the arc that is used, and what is known of it
  abbrev pub KnownArc : ArcRef → List Pos → Type 0
  KnownArc a c = (d : List Pos) × (s : ArcSummary) × (slice_get arcs a.arc ≡ Some d) × (slice_get ss a.arc ≡ Some s) × IsSummary d s × SameArc (collapsed position_cmp c) (collapsed position_cmp d)

  pub known_along : (a : ArcRef) (c : List Pos) → along arcs a ≡ Some c → KnownArc a c
  known_along a c e =
      let t = along_same arcs a c e in
      let k = summary_at arcs ss known a.arc t.0 t.1 in
      (t.0, k.0, t.1, k.1, k.2, same_collapsed c t.0 t.2)

  along_trail : (a : ArcRef) (c : List Pos) → KnownArc a c → is_simple ss a ≡ true → Trail (collapsed position_cmp c)
  along_trail a c k e = same_trail (collapsed position_cmp c) (collapsed position_cmp k.0) k.5 (k.4.1 (ap simple_if (sym k.3) ∙ e))

module _ (arcs : List (List Pos)) (ss : List ArcSummary) (ls : List ℕ) (known : AreSummaries arcs ss) (shared : ShareLabels arcs ls) where
  abbrev Known : ArcRef → List Pos → Type 0
  Known = KnownArc arcs ss known

  -- the label of a used arc that has a segment
  own_label : (a : ArcRef) (c : List Pos) → Known a c → (u v : Pos) → Beside u v (collapsed position_cmp c) → label_of ss ls a ≡ label_at ls a.arc ∷ []
  own_label a c k u v h =
      let b : Beside u v (collapsed position_cmp k.0) = same_beside u v (collapsed position_cmp c) (collapsed position_cmp k.0) k.5 h in
      let n : 2 ≤ k.1.count = subst (λ w. 2 ≤ w) (sym k.4.0) (beside_long u v (collapsed position_cmp k.0) b) in
      ap (λ t. cond t (label_at ls a.arc ∷ []) []) (ap more_if k.3 ∙ more_than_one k.1.count n)

  -- some arc has the segment whose label is one of these
  abbrev Owned : Pos → Pos → List ℕ → Type 0
  Owned u v labels = (i : ℕ) × (d : List Pos) × (slice_get arcs i ≡ Some d) × Beside u v (collapsed position_cmp d) × Has (label_at ls i) labels

  owned : (a : ArcRef) (c : List Pos) → Known a c → (u v : Pos) → Beside u v (collapsed position_cmp c) → Owned u v (label_of ss ls a)
  owned a c k u v h = (
    a.arc,
    k.0,
    k.2,
    same_beside u v (collapsed position_cmp c) (collapsed position_cmp k.0) k.5 h,
    subst (Has (label_at ls a.arc)) (sym (own_label a c k u v h)) (inl refl),
  )

  apart : (u v : Pos) (s t : List ℕ) → Distinct (s ++ t) → Owned u v s → Owned u v t → ⊥
  apart u v s t d h k = no (label_at ls h.0) s d h.4 (subst (λ n. Has n t) (shared k.0 h.0 k.1 h.1 u v k.2 h.2 k.3 h.3) k.4)
    where
      no : (n : ℕ) (s : List ℕ) → Distinct (s ++ t) → Has n s → Has n t → ⊥
      no n [] d h k = h
      no n (m ∷ s) d (inl e) k = d.0 (subst (λ w. Has w (s ++ t)) e (Has-append_right n s t k))
      no n (m ∷ s) d (inr h) k = no n s d.1 h k

  both : (a b : Bool) → (a && b) ≡ true → (a ≡ true) × (b ≡ true)
  both true b e = (refl, e)
  both false b e = absurd cc

  -- no segment stands twice in what the used arcs stitch to, and each is an arc's whose label is among theirs
  pub stitched_apart : (used : List ArcRef) (x : Pos) (r : List Pos) → StitchFrom arcs x used r → are_simple ss used ≡ true → Distinct (labels_of ss ls used) →
      Trail (x ∷ after x r) × ((u v : Pos) → Beside u v (x ∷ after x r) → Owned u v (labels_of ss ls used))
  stitched_apart [] x r h e d =
      subst (λ w. Trail (x ∷ after x w) × ((u v : Pos) → Beside u v (x ∷ after x w) → Owned u v [])) (sym h)
      ((((λ y b. absurd b)), tt), (λ u v b. absurd (let n = beside_long u v (x ∷ []) b in omega (arith, n))))
  stitched_apart (a ∷ more) x r h e d =
      let q : List Pos = h.0 in
      let s : List Pos = h.1 in
      let k : Known a (x ∷ q) = known_along arcs ss known a (x ∷ q) h.2 in
      let b = both (is_simple ss a) (are_simple ss more) e in
      let ih = stitched_apart more (last_of x q) s h.4 b.1 (Distinct_right (label_of ss ls a) (labels_of ss ls more) d) in
      let c : collapsed position_cmp (x ∷ q) ≡ x ∷ after x q = collapsed_after x q in
      let l : last_of (last_of x (after x q)) [] ≡ last_of x q = after_last x q in
      let front : (u v : Pos) → Beside u v (x ∷ after x q) → Owned u v (label_of ss ls a) = λ u v g. owned a (x ∷ q) k u v (subst (Beside u v) (sym c) g) in
      let back : (u v : Pos) → Beside u v (last_of x (after x q) ∷ after (last_of x q) s) → Owned u v (labels_of ss ls more) =
      λ u v g. ih.1 u v (subst (λ z. Beside u v (z ∷ after (last_of x q) s)) (after_last x q) g) in
      subst (λ w. Trail (x ∷ w) × ((u v : Pos) → Beside u v (x ∷ w) → Owned u v (label_of ss ls a ++ labels_of ss ls more))) (sym (ap (after x) h.3 ∙ after_join x q s)) (
        Trail-behind x (after x q) (after (last_of x q) s) (subst Trail c (along_trail arcs ss known a (x ∷ q) k b.0))
            (subst (λ z. Trail (z ∷ after (last_of x q) s)) (sym (after_last x q)) ih.0)
            (λ u v g n. apart u v (label_of ss ls a) (labels_of ss ls more) d (front u v (inl g)) (back u v n)),
        λ u v g. elim (beside_join u v x (after x q) (after (last_of x q) s) g) [
          | inl n ↦ (let o = front u v n in (o.0, o.1, o.2, o.3, Has-append_left (label_at ls o.0) (label_of ss ls a) (labels_of ss ls more) o.4))
          | inr n ↦ (let o = back u v n in (o.0, o.1, o.2, o.3, Has-append_right (label_at ls o.0) (label_of ss ls a) (labels_of ss ls more) o.4))
        ],
      )

  -- an arc with a label has a segment
  label_long : (a : ArcRef) (c : List Pos) → Known a c → ¬ (label_of ss ls a ≡ []) → 2 ≤ length (collapsed position_cmp c)
  label_long a c k n = go (nat_lt 1 k.1.count) refl (λ e. n (ap (λ t. cond t (label_at ls a.arc ∷ []) []) (ap more_if k.3) ∙ e))
    where
      go : (b : Bool) → nat_lt 1 k.1.count ≡ b → ¬ (◌≡◌ {A = List ℕ} (cond b (label_at ls a.arc ∷ []) []) []) → 2 ≤ length (collapsed position_cmp c)
      go false p m = absurd (m refl)
      go true p m =
          let e : k.1.count ≡ length (collapsed position_cmp c) = k.4.0 ∙ sym (same_length (collapsed position_cmp c) (collapsed position_cmp k.0) k.5) in
          let h : 1 < k.1.count = ltb-true 1 k.1.count p in
          omega (arith, e, h)

  none_or : (s : List ℕ) → (s ≡ []) ⊎ (¬ (s ≡ []))
  none_or [] = inl refl
  none_or (n ∷ s) = inr (λ e. let k : n ∷ s ≡ [] = e in cc)

  -- used arcs of which one has a segment stitch to two positions or more
  pub stitched_long : (used : List ArcRef) (x : Pos) (r : List Pos) → StitchFrom arcs x used r → ¬ (labels_of ss ls used ≡ []) → 1 ≤ length (after x r)
  stitched_long [] x r h n = absurd (n refl)
  stitched_long (a ∷ more) x r h n =
      let q : List Pos = h.0 in
      let s : List Pos = h.1 in
      let e : length (after x r) ≡ length (after x q ++ after (last_of x q) s) = ap length (ap (after x) h.3 ∙ after_join x q s) in
      let m = length-append (after x q) (after (last_of x q) s) in
      elim (none_or (label_of ss ls a)) [
        | inl f ↦ (let k = stitched_long more (last_of x q) s h.4 (λ g. n (ap (λ w. w ++ labels_of ss ls more) f ∙ g)) in omega (arith, e, m, k))
        | inr f ↦ (let k = label_long a (x ∷ q) (known_along arcs ss known a (x ∷ q) h.2) f in let c = ap length (collapsed_after x q) in omega (arith, e, m, k, c))
      ]

  module _ (used : List ArcRef) (v w : Pos) (runs : Runs arcs v used w) (simple : are_simple ss used ≡ true) (some : ¬ (labels_of ss ls used ≡ [])) (once : Distinct (labels_of ss ls used)) where
    is_line : (r : List Pos) → StitchFrom arcs v used r → IsLine (collapsed position_cmp (v ∷ r))
    is_line r h =
        subst IsLine (sym (collapsed_after v r))
        (record { long = (let n = stitched_long used v r h some in omega (arith, n)); once = (stitched_apart used v r h simple once).0 })

    without_fault : (r : List Pos) → StitchFrom arcs v used r → line_fault position_cmp (v ∷ r) ≡ None
    without_fault r h = (line_exact position_cmp position_total position_same (v ∷ r)).1 (is_line r h)

    stitch_to : (r : List Pos) → StitchFrom arcs v used r → StitchTo arcs used (v ∷ r)
    stitch_to r h = go used h some
      where
        go : (us : List ArcRef) → StitchFrom arcs v us r → ¬ (labels_of ss ls us ≡ []) → StitchTo arcs us (v ∷ r)
        go [] k n = absurd (n refl)
        go (a ∷ us) k n = k

    pub line_says : StitchToFault (line_fault position_cmp) arcs used None
    line_says = let t = runs_stitch arcs v used w runs in (v ∷ t.0, stitch_to t.0 t.1, without_fault t.0 t.1)

    ring_judged : (x : Pos) (l : List Pos) → last_of x l ≡ x → collapsed_line_fault position_cmp (x ∷ l) ≡ None → collapsed_ring_fault position_cmp (x ∷ l) ≡ None
    ring_judged x l e f =
        go (is_closed position_cmp (x ∷ l)) (equal-same_vertex position_cmp position_total position_same x (last_of x l) (sym e)) (nat_lt (length (x ∷ l)) 2) (nat_lt (length (x ∷ l)) 4)
        (repeats position_cmp (x ∷ l)) f
      where
        go : (b : Bool) → b ≡ true → (a d r : Bool) →
            cond a (Some TooShort) (cond (b && d) (Some TooShort) (cond r (Some Revisit) None)) ≡ None →
            cond (not b) (Some NotClosed) (cond d (Some TooShort) (cond r (Some Revisit) None)) ≡ None
        go false p a d r k = absurd cc
        go true p true d r k = absurd cc
        go true p false true r k = absurd cc
        go true p false false r k = k

    closed_without_fault : (r : List Pos) → last_of v r ≡ v → line_fault position_cmp (v ∷ r) ≡ None → ring_fault position_cmp (v ∷ r) ≡ None
    unfolding line_fault ring_fault
    closed_without_fault r e f =
        ap (collapsed_ring_fault position_cmp) (collapsed_after v r)
        ∙ ring_judged v (after v r) (after_last v r ∙ e) (ap (collapsed_line_fault position_cmp) (sym (collapsed_after v r)) ∙ f)

    pub ring_says : v ≡ w → StitchToFault (ring_fault position_cmp) arcs used None
    ring_says e =
        let t = runs_stitch arcs v used w runs in
        (v ∷ t.0, stitch_to t.0 t.1, closed_without_fault t.0 (t.2 ∙ sym e) (without_fault t.0 t.1))
