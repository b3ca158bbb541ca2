-- What is made of each arc in loops over the arcs, and over the positions of an arc.
use Rattle.std.proofs.Common.{◌≡◌, ◌<◌, ◌≤◌, ◌+◌, ℕ, zero, suc, Bool, true, false, cond, not, nat_eq, List, [], ◌∷◌, ◌++◌, drop, length, map, get_or, min, slice_get, Some, Result, Ok, Err, IfOk, ◌||◌, inl, inr, refl, sym, ap, ◌∙◌, subst, append_assoc, arith}
use Rattle.std.specs.List.Sorted.{IsPermutation, IsSorted}
use Rattle.grid.specs.declared.pos.Pos.{Pos}
use Rattle.lines.specs.Pairs.{pair_eq, pair_of, position_eq}
use Rattle.lines.specs.Reading.{collapsed}
use Rattle.lines.specs.Segments.{segments_from, segments_of}
use Rattle.lines.specs.Turned.{position_cmp}
use Rattle.lines.specs.declared.pair.PositionPair.{PositionPair}
use Rattle.lines.proofs.Dropping.{drop_item}
use Rattle.lines.proofs.Positions.{position_eq_is}
use Rattle.lines.proofs.SortedLists.{Has-permutation}
use Rattle.theory.specs.LinesAndRings.{Trail}
use Rattle.theory.specs.Lists.{Has}
use Rattle.theory.specs.TopologyFunction.{same_vertex}
use Rattle.theory.proofs.Lists.{Has-append_left, Has-append_right}
use Rattle.normalize.specs.ArcLists.Labels.{agree, agree_from, all_agree, label_at}
use Rattle.theory.specs.ArcNumbers.{ArcRef}
use Rattle.normalize.specs.ArcLists.Lists.{segment_count}
use Rattle.normalize.specs.ArcLists.Segments.{HaveSegments, segment_cmp, segment_in, segments_along}
use Rattle.normalize.specs.declared.arc_lists.segments.NumberedSegment.{NumberedSegment}
use Rattle.normalize.specs.declared.arc_lists.summaries.ArcSummary.{ArcSummary}
use Rattle.normalize.proofs.Numbered.{behind, none_left, within, last_or}
use Rattle.normalize.proofs.ArcListsLemmas.Collapsing.{after, collapsed_after}

-- ---- segments

-- the segments from x on, where equal neighbours are read as one
abbrev pub segments_after : Pos → List Pos → List PositionPair
segments_after x l = segments_from x (after x l)

pub segments_first : (x : Pos) (l c : List Pos) → c ≡ x ∷ l → segments_along c ≡ segments_after x l
segments_first x l c e = ap segments_along e ∙ ap segments_of (collapsed_after x l)

-- the segments of the arcs before a number are there
abbrev pub HaveSegmentsBefore : List (List Pos) → List NumberedSegment → ℕ → Type 0
HaveSegmentsBefore arcs v n = (i : ℕ) (c : List Pos) (s : PositionPair) → i < n → slice_get arcs i ≡ Some c → Has s (segments_along c) → Has (segment_in i s) v

Has-map : (n : ℕ) (s : PositionPair) (l : List PositionPair) → Has s l → Has (segment_in n s) (map (segment_in n) l)
Has-map n s [] h = absurd h
Has-map n s (t ∷ l) (inl e) = inl (ap (segment_in n) e)
Has-map n s (t ∷ l) (inr h) = inr (Has-map n s l h)

pub segments_added : (arcs : List (List Pos)) (made now : List NumberedSegment) (n : ℕ) (x : List Pos) → drop n arcs ≡ x ∷ drop (n + 1) arcs →
    now ≡ made ++ map (segment_in n) (segments_along x) → HaveSegmentsBefore arcs made n → HaveSegmentsBefore arcs now (n + 1)
segments_added arcs made now n x left e before i c s h there has =
    subst (Has (segment_in i s)) (sym e)
    (elim (last_or i n h) [
      | inl k ↦ Has-append_left (segment_in i s) made (map (segment_in n) (segments_along x)) (before i c s k there has)
      | inr k ↦
          let both : Some x ≡ Some c = sym (behind n arcs (drop (n + 1) arcs) x left).1 ∙ subst (λ m. slice_get arcs m ≡ Some c) k there in
          let same : c ≡ x = cc in
          Has-append_right (segment_in i s) made (map (segment_in n) (segments_along x))
          (subst (λ m. Has (segment_in m s) (map (segment_in n) (segments_along x))) (sym k)
          (Has-map n s (segments_along x) (subst (λ w. Has s (segments_along w)) same has)))
    ])

pub segments_sorted : (arcs : List (List Pos)) (made v : List NumberedSegment) (n : ℕ) → length arcs ≤ n → HaveSegmentsBefore arcs made n → IsPermutation made v → IsSorted segment_cmp v →
    HaveSegments arcs v
segments_sorted arcs made v n h before p s = record {
  sorted = s;
  each = λ i c t there has. Has-permutation made v (segment_in i t) p (before i c t (let k = within arcs i c there in omega (arith, h, k)) there has);
}

-- ---- labels

label_none : (i : ℕ) → label_at [] i ≡ 0
label_none zero = refl
label_none (suc i) = refl

none_agree : (s t : NumberedSegment) → agree [] s t ≡ true
none_agree s t = go (not (pair_eq s.pair t.pair)) (λ i. nat_eq (label_none s.arc i) (label_none t.arc i))
  where
    go : (b : Bool) → nat_eq (label_at [] s.arc) (label_at [] t.arc) ≡ true → (b || nat_eq (label_at [] s.arc) (label_at [] t.arc)) ≡ true
    go true e = refl
    go false e = e

pub no_labels_agree : (v : List NumberedSegment) → all_agree [] v ≡ true
no_labels_agree [] = refl
no_labels_agree (s ∷ v) = go s v
  where
    go : (s : NumberedSegment) (v : List NumberedSegment) → agree_from [] s v ≡ true
    go s [] = refl
    go s (t ∷ v) = ap (λ b. cond b (agree_from [] t v) false) (none_agree s t) ∙ go t v

pub ok_map : {X E : Type 0} (r : Result X E) (B C : X → Type 0) → IfOk r B → ((x : X) → B x → C x) → IfOk r C
ok_map (Ok x) B C b f = f x b
ok_map (Err e) B C b f = tt

-- ---- positions one by one

pub count_first : (x : Pos) (l c : List Pos) → c ≡ x ∷ l → 1 + length (after x l) ≡ length (collapsed position_cmp c)
count_first x l c e = let k : length (collapsed position_cmp c) ≡ length (x ∷ after x l) = ap length (ap (collapsed position_cmp) e ∙ collapsed_after x l) in omega (arith, k)

pub short_trail : (l : List Pos) → length l < 2 → Trail l
short_trail [] h = tt
short_trail (x ∷ []) h = ((λ y b. absurd b), tt)
short_trail (x ∷ (y ∷ l)) h = absurd (omega (arith, h))

module _ (n : ℕ) (s0 s1 whole : List NumberedSegment) (here next : Pos) (others : List Pos) (i : ℕ) (less : i < length others) (is : next ≡ get_or others i next)
    (before : s0 ++ map (segment_in n) (segments_after here (drop i others)) ≡ whole) where
  pub segment_pushed : (ne : Bool) (p : PositionPair) → ne ≡ not (position_eq next here) → ne ≡ true → p ≡ pair_of here next → s1 ≡ s0 ++ (segment_in n p ∷ []) →
      s1 ++ map (segment_in n) (segments_after next (drop (i + 1) others)) ≡ whole
  segment_pushed ne p e t q f =
      ap (λ w. w ++ map (segment_in n) (segments_after next (drop (i + 1) others))) (f ∙ ap (λ w. s0 ++ (segment_in n w ∷ [])) q)
      ∙ append_assoc s0 (segment_in n (pair_of here next) ∷ []) (map (segment_in n) (segments_after next (drop (i + 1) others)))
      ∙ ap (λ b. s0 ++ map (segment_in n) (segments_from here (cond b (after here (drop (i + 1) others)) (next ∷ after next (drop (i + 1) others))))) (sym (differ ne e t))
      ∙ ap (λ w. s0 ++ map (segment_in n) (segments_after here w)) (sym (drop_item others i next less is))
      ∙ before
    where
      differ : (ne : Bool) → ne ≡ not (position_eq next here) → ne ≡ true → same_vertex position_cmp next here ≡ false
      differ ne e t = sym (position_eq_is next here) ∙ flip (position_eq next here) (sym e ∙ t)
        where
          flip : (b : Bool) → not b ≡ true → b ≡ false
          flip false g = refl
          flip true g = absurd cc

  pub segment_passed : (ne : Bool) → ne ≡ not (position_eq next here) → ne ≡ false → s1 ≡ s0 →
      s1 ++ map (segment_in n) (segments_after here (drop (i + 1) others)) ≡ whole
  segment_passed ne e t f =
      ap (λ w. w ++ map (segment_in n) (segments_after here (drop (i + 1) others))) f
      ∙ ap (λ b. s0 ++ map (segment_in n) (segments_from here (cond b (after here (drop (i + 1) others)) (next ∷ after next (drop (i + 1) others))))) (sym (alike ne e t))
      ∙ ap (λ w. s0 ++ map (segment_in n) (segments_after here w)) (sym (drop_item others i next less is))
      ∙ before
    where
      alike : (ne : Bool) → ne ≡ not (position_eq next here) → ne ≡ false → same_vertex position_cmp next here ≡ true
      alike ne e t = sym (position_eq_is next here) ∙ flip (position_eq next here) (sym e ∙ t)
        where
          flip : (b : Bool) → not b ≡ false → b ≡ true
          flip true g = refl
          flip false g = absurd cc

-- ---- counts

pub all_counted : (ss : List ArcSummary) (used : List ArcRef) (n m i : ℕ) → length used ≤ i → n ≤ m → min (n + segment_count ss (drop i used)) m ≡ min (segment_count ss used) m →
    n ≡ min (segment_count ss used) m
all_counted ss used n m i h b e = let k : segment_count ss (drop i used) ≡ 0 = ap (segment_count ss) (none_left i used h) in omega (arith, b, e, k)
