-- The steps of finding all chains.
use Rattle.std.proofs.Common.{◌≡◌, ◌≤◌, ℕ, false, List, [], ◌∷◌, ◌++◌, drop, length, ◌⊎◌, inl, inr, refl, sym, ◌∙◌, subst, arith, Option, Some, None, suc, zero, ◌<◌}
use Rattle.std.specs.BTreeMap.{BTreeMap, IsLowerBound, is_at}
use Rattle.std.specs.Map.{lookup}
use Rattle.std.specs.Option.{IsSome}
use Rattle.theory.specs.Lists.{Steps, Beside, Has}
use Rattle.theory.specs.Walking.{Joining, Noted, Removed}
use Rattle.theory.proofs.Lists.{Beside-flip, Has-append_left}
use Rattle.theory.proofs.Walking.{from_stop, from_seam, passed, all_covered}
use Rattle.lines.specs.Turned.{position_cmp}
use Rattle.arcs.specs.Among.{among}
use Rattle.theory.specs.Geometry.{AtMost}
use Rattle.lines.proofs.Positions.{bool_split, true_false, position_decide, position_most, not_before}
use Rattle.chains.specs.Joined.{AmongSegments, SegmentsOf, StopAt, MeetsTwo, Covered, IsJoining, Took, AreCovering}
use Rattle.chains.specs.Walk.{links_in, IsWalk}
use Rattle.grid.specs.declared.pos.Pos.{Pos}
use Rattle.chains.specs.declared.segment.Segment.{Segment}

pub Among-turn : (segs : List Segment) (u v : Pos) → AmongSegments u v segs → AmongSegments v u segs
Among-turn [] u v h = h
Among-turn (s ∷ ss) u v (inl (inl h)) = inl (inr (h.1, h.0))
Among-turn (s ∷ ss) u v (inl (inr h)) = inl (inl (h.1, h.0))
Among-turn (s ∷ ss) u v (inr h) = inr (Among-turn ss u v h)

-- no segment has one vertex twice
Among-apart : (segs : List Segment) (u : Pos) → ¬ AmongSegments u u segs
Among-apart [] u h = h
Among-apart (s ∷ ss) u (inl (inl h)) = not_before s.ends.lesser s.ends.greater (sym h.0 ∙ h.1) s.ordered
Among-apart (s ∷ ss) u (inl (inr h)) = not_before s.ends.lesser s.ends.greater (sym h.1 ∙ h.0) s.ordered
Among-apart (s ∷ ss) u (inr h) = Among-apart ss u h

stop_decide : (keys : List Pos) (v : Pos) → StopAt keys v ⊎ (¬ StopAt keys v)
stop_decide keys v = elim (bool_split (among keys v)) [ inl e ↦ inl e | inr e ↦ inr (λ f. true_false (among keys v) f e) ]

Has-last : (d : List Pos) (xs : List (List Pos)) → Has d (xs ++ (d ∷ []))
Has-last d [] = inl refl
Has-last d (x ∷ xs) = inr (Has-last d xs)

Has-snoc : (d c : List Pos) (xs : List (List Pos)) → Has d (xs ++ (c ∷ [])) → (d ≡ c) ⊎ Has d xs
Has-snoc d c [] (inl h) = inl h
Has-snoc d c [] (inr h) = absurd h
Has-snoc d c (x ∷ xs) (inl h) = inr (inl h)
Has-snoc d c (x ∷ xs) (inr h) = elim (Has-snoc d c xs h) [ inl e ↦ inl e | inr e ↦ inr (inr e) ]

module _ (segs : List Segment) (keys : List Pos) (ok : MeetsTwo segs keys) where
  -- one chain more
  one_more : (m : Pos → Option (Pos × Pos)) (ds : List (List Pos)) (c : List Pos) →
      Joining (SegmentsOf segs) (StopAt keys) (AtMost position_cmp) m (λ d. (d ≡ c) ⊎ Has d ds) →
      Joining (SegmentsOf segs) (StopAt keys) (AtMost position_cmp) m (λ d. Has d (ds ++ (c ∷ [])))
  one_more m ds c j = record {
    links = j.links;
    chains = λ d h. j.chains d (Has-snoc d c ds h);
    apart = λ d h. j.apart d (Has-snoc d c ds h);
    known = λ v w nj s e. let t = j.known v w nj s e in
        (t.0, elim t.1 [ inl f ↦ subst (λ u. Has u (ds ++ (c ∷ []))) (sym f) (Has-last c ds) | inr f ↦ Has-append_left t.0 ds (c ∷ []) f ], t.2);
  }

  -- nothing to walk: the segment is on a chain
  pub skipped : (m : BTreeMap Pos (Pos × Pos)) (ds : List (List Pos)) (from to : Pos) → AmongSegments from to segs →
      IsJoining segs keys m ds → among keys to ≡ false → links_in m to ≡ None → Took segs keys m ds ds from to
  skipped m ds from to s j e f = record {
    joining = j;
    keeps = λ d h. h;
    covers = λ st.
        let t = passed (SegmentsOf segs) (StopAt keys) (AtMost position_cmp) (λ u v. Among-turn segs u v) ok position_most (Among-apart segs) (stop_decide keys) position_decide
        (λ d. Has d ds) (links_in m) j to from (λ g. true_false (among keys to) g e) (Among-turn segs from to s) f in
        (t.0, t.1, Beside-flip to from t.0 t.2);
  }

  pub taken : (m k : BTreeMap Pos (Pos × Pos)) (ds es : List (List Pos)) (from to : Pos) (l : List Pos) → AmongSegments from to segs →
      IsJoining segs keys m ds → StopAt keys from → StopAt keys to ⊎ Noted (links_in m) to → IsWalk m from to l k → es ≡ ds ++ (l ∷ []) →
      Took segs keys k ds es from to
  taken m k ds es from to l s j st start w e = subst (λ u. Took segs keys k ds u from to) (sym e) (record {
    joining = subst (λ u. IsJoining segs keys k (ds ++ (u ∷ []))) (sym w.1)
        (one_more (links_in k) ds (from ∷ (to ∷ w.0))
        (from_stop (SegmentsOf segs) (StopAt keys) (AtMost position_cmp) (λ u v. Among-turn segs u v) ok position_most (Among-apart segs) (stop_decide keys) position_decide
        (λ d. Has d ds) (links_in m) j from to w.0 (links_in k) st s start w.2));
    keeps = λ d h. Has-append_left d ds (l ∷ []) h;
    covers = λ i. (l, Has-last l ds, inl (subst (λ u. Steps from to u) (sym w.1) (inl (refl, refl))));
  })

  pub looped : (m h k : BTreeMap Pos (Pos × Pos)) (ds es : List (List Pos)) (seam next other : Pos) (l : List Pos) →
      IsJoining segs keys m ds → links_in m seam ≡ Some (next, other) → Removed (links_in m) seam (links_in h) →
      ((v : Pos) → Noted (links_in m) v → AtMost position_cmp seam v) →
      ((u v : Pos) → StopAt keys u → AmongSegments u v segs → Covered u v ds) → IsWalk h seam next l k → es ≡ ds ++ (l ∷ []) →
      record {
        joining : IsJoining segs keys k es;
        stops : (u v : Pos) → StopAt keys u → AmongSegments u v segs → Covered u v es;
      }
  looped m h k ds es seam next other l j e rem least cover w f = record {
    joining = subst (λ u. IsJoining segs keys k u) (sym f)
        (subst (λ u. IsJoining segs keys k (ds ++ (u ∷ []))) (sym w.1)
        (one_more (links_in k) ds (seam ∷ (next ∷ w.0))
        (from_seam (SegmentsOf segs) (StopAt keys) (AtMost position_cmp) (λ u v. Among-turn segs u v) ok position_most (Among-apart segs) (stop_decide keys) position_decide
        (λ d. Has d ds) (links_in m) j seam next other w.0 (links_in h) (links_in k) e rem least cover w.2)));
    stops = λ u v st s. let t = cover u v st s in
        (t.0, subst (λ w. Has t.0 w) (sym f) (Has-append_left t.0 ds (l ∷ []) t.1), t.2);
  }

  -- both ends of one segment
  pub two_steps : (m h k : BTreeMap Pos (Pos × Pos)) (ds es fs : List (List Pos)) (s : Segment) (left more : List Segment) →
      left ≡ s ∷ more → ((u v : Pos) → AmongSegments u v left → AmongSegments u v segs) → IsJoining segs keys m ds →
      ((u v : Pos) → StopAt keys u → AmongSegments u v segs → Covered u v ds ⊎ AmongSegments u v left) →
      (AmongSegments s.ends.lesser s.ends.greater segs → IsJoining segs keys m ds → Took segs keys h ds es s.ends.lesser s.ends.greater) →
      (AmongSegments s.ends.greater s.ends.lesser segs → IsJoining segs keys h es → Took segs keys k es fs s.ends.greater s.ends.lesser) →
      record {
        joining : IsJoining segs keys k fs;
        rest : (u v : Pos) → StopAt keys u → AmongSegments u v segs → Covered u v fs ⊎ AmongSegments u v more;
      }
  two_steps m h k ds es fs s left more e inside j rest t1 t2 =
      let there : AmongSegments s.ends.lesser s.ends.greater segs = inside s.ends.lesser s.ends.greater (subst (λ w. AmongSegments s.ends.lesser s.ends.greater w) (sym e) (inl (inl (refl, refl)))) in
      let a : Took segs keys h ds es s.ends.lesser s.ends.greater = t1 there j in
      let b : Took segs keys k es fs s.ends.greater s.ends.lesser = t2 (Among-turn segs s.ends.lesser s.ends.greater there) a.joining in
      record {
        joining = b.joining;
        rest = λ u v st i. elim (rest u v st i) [
          | inl t ↦ inl (t.0, b.keeps t.0 (a.keeps t.0 t.1), t.2)
          | inr r ↦ split a b u v st (subst (λ w. AmongSegments u v w) e r)
        ];
      }
    where
      split : Took segs keys h ds es s.ends.lesser s.ends.greater → Took segs keys k es fs s.ends.greater s.ends.lesser → (u v : Pos) → StopAt keys u →
          AmongSegments u v (s ∷ more) → Covered u v fs ⊎ AmongSegments u v more
      split a b u v st (inr r) = inr r
      split a b u v st (inl (inl g)) =
          let t = a.covers (subst (StopAt keys) g.0 st) in
          inl (t.0, b.keeps t.0 t.1, subst (λ w. Beside w v t.0) (sym g.0) (subst (λ w. Beside s.ends.lesser w t.0) (sym g.1) t.2))
      split a b u v st (inl (inr g)) =
          let t = b.covers (subst (StopAt keys) g.0 st) in
          inl (t.0, t.1, subst (λ w. Beside w v t.0) (sym g.0) (subst (λ w. Beside s.ends.greater w t.0) (sym g.1) t.2))

  pub all_found : (m : BTreeMap Pos (Pos × Pos)) (ds : List (List Pos)) → IsJoining segs keys m ds →
      ((u v : Pos) → StopAt keys u → AmongSegments u v segs → Covered u v ds) → ((q : Pos) → links_in m q ≡ None) → AreCovering segs keys ds
  all_found m ds j cover none = record {
    chains = j.chains;
    covers = all_covered (SegmentsOf segs) (StopAt keys) (AtMost position_cmp) (λ u v. Among-turn segs u v) ok position_most (Among-apart segs) (stop_decide keys) position_decide
        (λ d. Has d ds) (links_in m) j none cover;
  }

pub Among-drop : (i : ℕ) (u v : Pos) (segs : List Segment) → AmongSegments u v (drop i segs) → AmongSegments u v segs
Among-drop zero u v segs h = h
Among-drop (suc i) u v [] h = absurd h
Among-drop (suc i) u v (s ∷ ss) h = inr (Among-drop i u v ss h)

pub Among-past : (i : ℕ) (u v : Pos) (segs : List Segment) → length segs ≤ i → ¬ AmongSegments u v (drop i segs)
Among-past zero u v [] k h = h
Among-past zero u v (s ∷ ss) k h = absurd (omega arith)
Among-past (suc i) u v [] k h = h
Among-past (suc i) u v (s ∷ ss) k h = Among-past i u v ss (omega arith) h

lookup_empty : (es : List (Pos × (Pos × Pos))) (q : Pos) → ¬ (0 < length es) → lookup (is_at (position_cmp q)) es ≡ None
lookup_empty [] q n = refl
lookup_empty (e ∷ es) q n = absurd (n (omega arith))

pub empty_links : (m : BTreeMap Pos (Pos × Pos)) → ¬ (0 < length m.entries) → (q : Pos) → links_in m q ≡ None
empty_links m n q = lookup_empty m.entries q n

pub none_below : (m : BTreeMap Pos (Pos × Pos)) (seam : Pos) → IsLowerBound position_cmp m seam → (v : Pos) → Noted (links_in m) v → AtMost position_cmp seam v
none_below m seam low v n = low v (subst IsSome (sym n.2) refl)
