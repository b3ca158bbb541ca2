-- Joining kept arcs end to end: where no junction is left, two ends of kept arcs meet; arcs joined of others have no segment in common.
use Rattle.std.proofs.Common.{◌≡◌, ◌≤◌, ℕ, Bool, true, false, List, [], ◌∷◌, length, reverse, ◌⊎◌, inl, inr, refl, sym, ap, ◌∙◌, subst, arith, Some}
use Rattle.std.specs.Cmp.{IsTotalOrder}
use Rattle.std.specs.FinMap.{IsAntisymmetric}
use Rattle.std.specs.declared.cmp.Ordering.{Ordering}
use Rattle.theory.proofs.ArcNumbers.{along_flipped, along_used, taken_of}
use Rattle.theory.proofs.GroupedPieces.{not_same}
use Rattle.theory.proofs.JunctionTest.{is_answered, junction_means}
use Rattle.theory.proofs.OneTopology.{along_chain}
use Rattle.theory.proofs.Pieces.{two_segments_of}
use Rattle.theory.proofs.HealingKept.{arc_from, end_segment, part_sound}
use Rattle.theory.proofs.Reversing.{reverse-last, same_beside}
use Rattle.theory.proofs.RingListStart.{one_start, second}
use Rattle.theory.proofs.Rotations.{rotation_back, rotation_ring, rotation_steps}
use Rattle.theory.proofs.ValidMaps.{list_line, list_ring}
use Rattle.theory.proofs.Stitching.{stitched_beside}
use Rattle.theory.proofs.UsersOfArcs.{line_uses}
use Rattle.theory.specs.ArcNumbers.{ArcRef, StitchTo, Uses, along, flipped}
use Rattle.theory.specs.Arcs.{AreArcsOf}
use Rattle.theory.specs.Geometry.{Geometry, IsChainOf, IsSound, JunctionOf, SegmentOf}
use Rattle.theory.specs.LinesAndRings.{IsLine, IsRing, IsRotation, closed}
use Rattle.theory.specs.Lists.{Beside, front_of, last_of}
use Rattle.theory.specs.Refinement.{IsPartOf}
use Rattle.theory.specs.Healing.{EndBeside, IsKept, IsLoopRun, IsOpenRun, TwoMeet}
use Rattle.theory.specs.Segments.{OnTwo}
use Rattle.theory.specs.Validity.{BeginsAt}
use Rattle.theory.specs.TopologyFunction.{is_junction}

module _ {V : Type 0} (cmp : V → V → Ordering) (o : IsTotalOrder cmp) (same : IsAntisymmetric cmp) (dec : (a b : V) → Dec (a ≡ b))
    (u : Geometry V) (su : IsSound u) (table : List (List V)) (all : AreArcsOf cmp u table)
    (g : Geometry V) (part : IsPartOf g u) where
  abbrev Kept : ℕ → Type 0
  Kept = IsKept cmp g u table

  sg : IsSound g
  sg = part_sound g u su part

  first : (v : V) (b : ArcRef) → BeginsAt table v b → (z : V) × (q : List V) × (along table b ≡ Some (v ∷ (z ∷ q)))
  first v b h =
      let s = second cmp o same dec u su table all b v h.0 h.1 in
      (s.0, s.1, h.1 ∙ ap (λ w. Some (v ∷ w)) s.2)

  -- the neighbour besides p
  other : (v p : V) → SegmentOf g v p → OnTwo (SegmentOf g) v →
      (q : V) × (¬ (p ≡ q)) × SegmentOf g v q × ((c : V) → SegmentOf g v c → (c ≡ p) ⊎ (c ≡ q))
  other v p s (x, y, n, sx, sy, only) =
      elim (only p s) [
        | inl e ↦ (y, (λ f. n (sym e ∙ f)), sy, λ c h. elim (only c h) [ inl k ↦ inl (k ∙ sym e) | inr k ↦ inr k ])
        | inr e ↦ (x, (λ f. n (sym f ∙ e)), sx, λ c h. elim (only c h) [ inl k ↦ inr k | inr k ↦ inl (k ∙ sym e) ])
      ]

  apart : (v : V) (b c : ArcRef) (p q : V) (s t : List V) → along table b ≡ Some (v ∷ (p ∷ s)) → along table c ≡ Some (v ∷ (q ∷ t)) → ¬ (p ≡ q) → ¬ (b ≡ c)
  apart v b c p q s t e f n k =
      let m : Some (v ∷ (p ∷ s)) ≡ Some (v ∷ (q ∷ t)) = sym e ∙ ap (λ w. along table w) k ∙ f in
      let h : p ≡ q = cc in n h

  -- at a vertex that is no junction of the whole map, an arc that begins there ends there
  comes_back : (v p : V) (a : ArcRef) (s : List V) → along table a ≡ Some (v ∷ (p ∷ s)) → ¬ JunctionOf u v → BeginsAt table v (flipped a)
  comes_back v p a s e n =
      let k : IsChainOf cmp u (v ∷ (p ∷ s)) = along_chain cmp o same dec u su table all a (v ∷ (p ∷ s)) e in
      let l : v ≡ last_of p s = (elim k.ends [ inl j ↦ absurd (n j.0) | inr f ↦ f.0 ]) in
      (reverse (front_of v (p ∷ s)), along_flipped table a (v ∷ (p ∷ s)) e ∙ ap Some (reverse-last v (p ∷ s)) ∙ ap (λ w. Some (w ∷ reverse (front_of v (p ∷ s)))) (sym l))

  -- where a kept arc begins and no junction is left, one other kept arc begins, or the same one ends
  pub two_meet : (v : V) (a : ArcRef) → Kept a.arc → BeginsAt table v a → ¬ JunctionOf g v → TwoMeet Kept table v a
  two_meet v a ka h nj =
      let p = first v a h in
      let sp : SegmentOf g v p.0 = end_segment cmp o same dec u su table all g part v p.0 (a, ka, p.1, p.2) in
      let q = other v p.0 sp (two_segments_of g sg dec v p.0 nj sp) in
      let b : EndBeside Kept table v q.0 = by_test (is_junction cmp u v) refl p.0 p.1 p.2 q.0 q.1 q.2 q.3 in (
        b.0,
        apart v a b.0 p.0 q.0 p.1 b.2 p.2 b.3 q.1,
        b.1,
        (q.0 ∷ b.2, b.3),
        λ c kc hc.
            let z = first v c hc in
            elim (q.3 z.0 (end_segment cmp o same dec u su table all g part v z.0 (c, kc, z.1, z.2))) [
              | inl e ↦ inl (one_start cmp o same dec u su table all c a v p.0 z.1 p.1 (subst (λ w. along table c ≡ Some (v ∷ (w ∷ z.1))) e z.2) p.2)
              | inr e ↦ inr (one_start cmp o same dec u su table all c b.0 v q.0 z.1 b.2 (subst (λ w. along table c ≡ Some (v ∷ (w ∷ z.1))) e z.2) b.3)
            ],
      )
    where
      by_test : (t : Bool) → is_junction cmp u v ≡ t → (p : V) (s : List V) → along table a ≡ Some (v ∷ (p ∷ s)) → (q : V) → ¬ (p ≡ q) → SegmentOf g v q →
          ((c : V) → SegmentOf g v c → (c ≡ p) ⊎ (c ≡ q)) → EndBeside Kept table v q
      by_test true e p s al q n sq only = arc_from cmp o same dec u su table all g part v q (junction_means cmp o same u v e) sq
      by_test false e p s al q n sq only =
          let z = first v (flipped a) (comes_back v p a s al (λ j. absurd (let f : true ≡ false = sym (is_answered cmp o same u v j) ∙ e in cc))) in
          elim (only z.0 (end_segment cmp o same dec u su table all g part v z.0 (flipped a, ka, z.1, z.2))) [
            | inl f ↦
                let k : flipped a ≡ a = one_start cmp o same dec u su table all (flipped a) a v p z.1 s (subst (λ w. along table (flipped a) ≡ Some (v ∷ (w ∷ z.1))) f z.2) al in
                absurd (not_same a.reversed (ap (λ w. w.reversed) (sym k)))
            | inr f ↦ (flipped a, ka, z.1, subst (λ w. along table (flipped a) ≡ Some (v ∷ (w ∷ z.1))) f z.2)
          ]

  -- lists of different used arcs have no segment in common
  pub runs_apart : (a b : List ArcRef) (l m : List V) → StitchTo table a l → StitchTo table b m → ((k : ℕ) → Uses k a → ¬ Uses k b) →
      (p q : V) → Beside p q l → ¬ Beside p q m
  runs_apart [] b l m sa sb n p q h k = none l sa h
    where
      none : (l : List V) → l ≡ [] → ¬ Beside p q l
      none [] e (inl h) = h
      none [] e (inr h) = h
      none (x ∷ l) e h = absurd cc
  runs_apart (x ∷ a) b [] m sa sb n p q h k = sa
  runs_apart (x ∷ a) b (y ∷ r) m sa sb n p q h k =
      let t = taken_of table y (x ∷ a) r sa in
      let s = stitched_beside p q y t.0 r t.2 h in
      let d = along_used table (x ∷ a) t.0 t.1 s.0 s.1 in
      n d.0 d.1 ((line_uses cmp o same dec u su table all m b sb d.0 d.2 p q d.3 (same_beside p q s.0 d.2 d.4 s.2)).0 k)

  abbrev Joint : List V → List ArcRef → Type 0
  Joint c used = IsOpenRun Kept (JunctionOf g) table c used ⊎ IsLoopRun cmp Kept (JunctionOf g) table c used

  -- the used arcs that c was joined of, in the order in which they were found
  abbrev pub source : (c : List V) (used : List ArcRef) → IsOpenRun Kept (JunctionOf g) table c used ⊎ IsLoopRun cmp Kept (JunctionOf g) table c used → List ArcRef
  source c used (inl k) = used
  source c used (inr k) = k.from

  abbrev route : (c : List V) (used : List ArcRef) → Joint c used → List V
  route c used (inl k) = c
  route c used (inr k) = closed k.round

  stitched : (c : List V) (used : List ArcRef) (x : Joint c used) → StitchTo table (source c used x) (route c used x)
  stitched c used (inl k) = k.run.stitch
  stitched c used (inr k) = k.run.stitch

  turn : (a : List V) (x : V) (l : List V) → IsRing a → IsRotation a (x ∷ l) → (p q : V) → Beside p q (closed (x ∷ l)) → Beside p q (closed a)
  turn [] x l k ro p q b = let n : 3 ≤ 0 = k.long in absurd (omega arith)
  turn (y ∷ a) x l k ro p q b =
      let n : 3 ≤ length (x ∷ l) = (rotation_ring (y ∷ a) (x ∷ l) ro k).long in
      let m : 1 ≤ length l = omega (arith, n) in
      let back = rotation_back (y ∷ a) (x ∷ l) ro in
      elim b [ inl s ↦ inl (rotation_steps x l y a m back p q s) | inr s ↦ inr (rotation_steps x l y a m back q p s) ]

  beside_route : (c : List V) (used : List ArcRef) (x : Joint c used) (p q : V) → Beside p q c → Beside p q (route c used x)
  beside_route c used (inl k) p q b = b
  beside_route c used (inr k) p q b =
      turn k.round k.first k.rest (list_ring cmp o same dec u su table all k.from k.round k.run.some k.run.stitch k.run.once) k.turned p q
      (subst (λ w. Beside p q w) k.arc b)

  side : (c : List V) (used : List ArcRef) → Joint c used → (p : V) × (q : V) × Beside p q c
  side c used (inl k) = line_side c (list_line cmp o same dec u su table all used c k.run.some k.run.stitch k.run.once)
    where
      line_side : (c : List V) → IsLine c → (p : V) × (q : V) × Beside p q c
      line_side [] i = let n : 2 ≤ 0 = i.long in absurd (omega arith)
      line_side (x ∷ []) i = let n : 2 ≤ 1 = i.long in absurd (omega arith)
      line_side (x ∷ (y ∷ r)) i = (x, y, inl (inl (refl, refl)))
  side c used (inr k) =
      let t = closed_side k.first k.rest in (t.0, t.1, subst (λ w. Beside t.0 t.1 w) (sym k.arc) t.2)
    where
      closed_side : (x : V) (l : List V) → (p : V) × (q : V) × Beside p q (closed (x ∷ l))
      closed_side x [] = (x, x, inl (inl (refl, refl)))
      closed_side x (y ∷ l) = (x, y, inl (inl (refl, refl)))

  -- arcs that are joined of different old ones differ
  pub joined_apart : (c : List V) (a b : List ArcRef)
      (x : IsOpenRun Kept (JunctionOf g) table c a ⊎ IsLoopRun cmp Kept (JunctionOf g) table c a)
      (y : IsOpenRun Kept (JunctionOf g) table c b ⊎ IsLoopRun cmp Kept (JunctionOf g) table c b) →
      ¬ ((k : ℕ) → Uses k (source c a x) → ¬ Uses k (source c b y))
  joined_apart c a b x y n =
      let s = side c a x in
      runs_apart (source c a x) (source c b y) (route c a x) (route c b y) (stitched c a x) (stitched c b y) n s.0 s.1
      (beside_route c a x s.0 s.1 s.2) (beside_route c b y s.0 s.1 s.2)
