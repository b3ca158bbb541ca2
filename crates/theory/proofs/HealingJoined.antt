-- Arcs joined of kept ones are the arcs of what is left, and the joined ones are their pieces.
use Rattle.std.proofs.Common.{◌≡◌, ◌≤◌, ℕ, Bool, true, false, cond, List, [], ◌∷◌, ◌++◌, length, ◌⊎◌, inl, inr, refl, sym, ap, ◌∙◌, subst, arith, append_assoc, Some}
use Rattle.std.proofs.lemmas.List.{append-nil}
use Rattle.std.specs.Cmp.{IsTotalOrder}
use Rattle.std.specs.FinMap.{IsAntisymmetric}
use Rattle.std.specs.declared.cmp.Ordering.{Ordering}
use Rattle.theory.proofs.ArcNumbers.{along_used, taken_of}
use Rattle.theory.proofs.ArcsAsMap.{alike_back, arcs_same, chain_alike, three_map, turned_alike}
use Rattle.theory.proofs.ArcsOfMap.{passes, stops}
use Rattle.theory.proofs.ClosedLists.{around_steps}
use Rattle.theory.proofs.CoveringChains.{covering_arcs}
use Rattle.theory.proofs.Junctions.{junction_law, line_visit}
use Rattle.theory.proofs.Lists.{Has-append, Has-append_left, Has-append_right, Steps-left, Steps-right, last-snoc, last_join, last_or_inner, last_step}
use Rattle.theory.proofs.ListsOfLists.{Pairwise-weaker}
use Rattle.theory.proofs.OneTopology.{along_chain}
use Rattle.theory.proofs.Pieces.{line_pieces, ring_loop}
use Rattle.theory.proofs.RefinementLaws.{pairwise_at, pairwise_used, part_junction, part_segment}
use Rattle.theory.proofs.HealingKept.{kept_laws, kept_stays, part_sound}
use Rattle.theory.proofs.Reversing.{same_beside}
use Rattle.theory.proofs.Rotations.{ring_list_rotated, rotation_back, rotation_has, rotation_steps}
use Rattle.theory.proofs.ValidMaps.{list_line, list_ring}
use Rattle.theory.proofs.ValidRings.{ring_turned}
use Rattle.theory.proofs.Stitching.{stitched_beside}
use Rattle.theory.proofs.TurnedLists.{rotation_at}
use Rattle.theory.proofs.UsersOfArcs.{line_uses, partner, ring_uses}
use Rattle.theory.proofs.VisitedAgain.{Trail-turn, ring_turn}
use Rattle.theory.specs.ArcNumbers.{ArcRef, StitchFrom, StitchTo, Uses, along}
use Rattle.theory.specs.Arcs.{AreArcsOf}
use Rattle.theory.specs.Chain.{Free}
use Rattle.theory.specs.Cutting.{cut_from}
use Rattle.theory.specs.Geometry.{AtMost, Geometry, IsChainOf, IsLineOf, IsRingOf, IsSound, JunctionOf, SegmentOf}
use Rattle.theory.specs.LinesAndRings.{IsLine, IsRing, IsRotation, around, closed}
use Rattle.theory.specs.Lists.{Begins, Beside, Each, EndOf, Has, Pairwise, Passes, Steps, front_of, last_of}
use Rattle.theory.specs.Refinement.{Alike, ArePiecesOfArc, IsPartOf, IsRefinementOf, both_of, pieces_at}
use Rattle.theory.specs.Healing.{AreJoined, IsKept, IsLoopRun, IsOpenRun}
use Rattle.theory.specs.Segments.{OnThree}
use Rattle.theory.specs.Validity.{BeginsAt}
use Rattle.theory.specs.Topology.{IsRingList}
use Rattle.theory.specs.TopologyFunction.{is_junction}

-- what is passed in a list of two parts is passed in one of them, or they meet there
passes_join : {V : Type 0} (a v b x : V) (q s : List V) → Passes a v b (x ∷ (q ++ s)) →
    Passes a v b (x ∷ q) ⊎ (((v ≡ last_of x q) × Begins b s) ⊎ Passes a v b (last_of x q ∷ s))
passes_join a v b x [] s h = inr (inr h)
passes_join a v b x (y ∷ []) s (inl h) = inr (inl (h.1.0, h.1.1))
passes_join a v b x (y ∷ (z ∷ q)) s (inl h) = inl (inl h)
passes_join a v b x (y ∷ q) s (inr h) = elim (passes_join a v b y q s h) [ inl k ↦ inl (inr k) | inr k ↦ inr k ]

-- what stands between the first and the last is passed
pub front_passes : {V : Type 0} (v x y : V) (r : List V) → Has v (front_of y r) → (a : V) × (b : V) × Passes a v b (x ∷ (y ∷ r))
front_passes v x y [] h = absurd h
front_passes v x y (z ∷ r) (inl e) = (x, z, inl (refl, (e, refl)))
front_passes v x y (z ∷ r) (inr h) = let t = front_passes v y z r h in (t.0, t.1, inr t.2)

-- a list with a stop at its end alone is not cut
pub cut_one : {V : Type 0} (test : V → Bool) (c : List V) (y : V) (r : List V) → ((v : V) → Has v (front_of y r) → test v ≡ false) → test (last_of y r) ≡ true →
    cut_from test c (y ∷ r) ≡ (c ++ (y ∷ r)) ∷ []
cut_one test c y [] inner far = ap (λ w. cond w ((c ++ (y ∷ [])) ∷ []) []) far
cut_one test c y (z ∷ r) inner far =
    ap (λ w. cond w ((c ++ (y ∷ [])) ∷ cut_from test (y ∷ []) (z ∷ r)) (cut_from test (c ++ (y ∷ [])) (z ∷ r))) (inner y (inl refl))
    ∙ cut_one test (c ++ (y ∷ [])) z r (λ v h. inner v (inr h)) far
    ∙ ap (λ w. w ∷ []) (append_assoc c (y ∷ []) (z ∷ r))

-- an end of a list of two or more has a neighbour
end_side : {V : Type 0} (v : V) (l : List V) → IsLine l → EndOf v l → (w : V) × Beside v w l
end_side v [] k h = absurd h
end_side v (x ∷ []) k h = let n : 2 ≤ 1 = k.long in absurd (omega arith)
end_side v (x ∷ (y ∷ r)) k (inl e) = (y, inl (inl (e, refl)))
end_side v (x ∷ (y ∷ r)) k (inr e) = let t = last_step x y r in (t.0, inr (subst (λ w. Steps t.0 w (x ∷ (y ∷ r))) (sym e) t.1))

module _ {V : Type 0} (cmp : V → V → Ordering) (o : IsTotalOrder cmp) (same : IsAntisymmetric cmp) (dec : (a b : V) → Dec (a ≡ b))
    (u : Geometry V) (su : IsSound u) (table : List (List V)) (all : AreArcsOf cmp u table)
    (g : Geometry V) (part : IsPartOf g u) where
  abbrev Kept : ℕ → Type 0
  Kept = IsKept cmp g u table

  abbrev Stop : V → Type 0
  Stop = JunctionOf g

  abbrev Open : List V → List ArcRef → Type 0
  Open = IsOpenRun Kept Stop table

  abbrev Loop : List V → List ArcRef → Type 0
  Loop = IsLoopRun cmp Kept Stop table

  sg : IsSound g
  sg = part_sound g u su part

  law : (a : Geometry V) → IsSound a → (v : V) → JunctionOf a v → ((l : List V) × IsLineOf a l × EndOf v l) ⊎ OnThree (SegmentOf a) v
  law a sa v = (junction_law (IsLineOf a) (IsRingOf a) dec (λ l h. Trail-turn l (sa.lines l h).once) (λ r h. ring_turn r (sa.rings r h)) v).0

  law_back : (a : Geometry V) → IsSound a → (v : V) → OnThree (SegmentOf a) v → JunctionOf a v
  law_back a sa v t = (junction_law (IsLineOf a) (IsRingOf a) dec (λ l h. Trail-turn l (sa.lines l h).once) (λ r h. ring_turn r (sa.rings r h)) v).1 (inr t)

  -- what kept arcs stitch to has segments that stay
  run_segment : (used : List ArcRef) (l : List V) → StitchTo table used l → ((k : ℕ) → Uses k used → Kept k) → (p q : V) → Beside p q l → SegmentOf g p q
  run_segment [] l st kept p q b = absurd (none l st b)
    where
      none : (l : List V) → l ≡ [] → ¬ Beside p q l
      none [] e (inl h) = h
      none [] e (inr h) = h
      none (x ∷ l) e h = absurd cc
  run_segment (a ∷ used) [] st kept p q b = absurd st
  run_segment (a ∷ used) (x ∷ r) st kept p q b =
      let t = taken_of table x (a ∷ used) r st in
      let h = stitched_beside p q x t.0 r t.2 b in
      let k = along_used table (a ∷ used) t.0 t.1 h.0 h.1 in
      kept_stays cmp o same dec u su table all g part k.0 k.2 (kept k.0 k.1) k.3 p q (same_beside p q h.0 k.2 k.4 h.2)

  inner_free : (c : List V) → IsChainOf cmp u c → (a v b : V) → Passes a v b c → ¬ Stop v
  inner_free [] k a v b h j = h
  inner_free (x ∷ r) k a v b h j = k.inner_free a v b h (part_junction cmp o same dec g u part v j)

  along_free : (b : ArcRef) (c : List V) → along table b ≡ Some c → (p v q : V) → Passes p v q c → ¬ Stop v
  along_free b c e = inner_free c (along_chain cmp o same dec u su table all b c e)

  -- what is passed along used arcs is inside an arc, or where one begins
  run_passes : (b : ArcRef) (more : List ArcRef) (x : V) (r : List V) → StitchFrom table x (b ∷ more) r → (p v q : V) → Passes p v q (x ∷ r) →
      ((b' : ArcRef) × Has b' more × BeginsAt table v b') ⊎ (¬ Stop v)
  run_passes b [] x r st p v q h =
      elim (passes_join p v q x st.0 st.1 (subst (λ w. Passes p v q (x ∷ w)) st.3 h)) [
        | inl k ↦ inr (along_free b (x ∷ st.0) st.2 p v q k)
        | inr (inl k) ↦ absurd (subst (λ w. Begins q w) st.4 k.1)
        | inr (inr k) ↦ absurd (none (subst (λ w. Passes p v q (last_of x st.0 ∷ w)) st.4 k))
      ]
    where
      none : {z : V} → ¬ Passes p v q (z ∷ [])
      none (inl h) = h.1
      none (inr h) = h
  run_passes b (b' ∷ more) x r st p v q h =
      elim (passes_join p v q x st.0 st.1 (subst (λ w. Passes p v q (x ∷ w)) st.3 h)) [
        | inl k ↦ inr (along_free b (x ∷ st.0) st.2 p v q k)
        | inr (inl k) ↦ inl (b', inl refl, (st.4.0, st.4.2 ∙ ap (λ w. Some (w ∷ st.4.0)) (sym k.0)))
        | inr (inr k) ↦ elim (run_passes b' more (last_of x st.0) st.1 st.4 p v q k) [ inl t ↦ inl (t.0, inr t.1, t.2) | inr n ↦ inr n ]
      ]

  -- each vertex behind the first is inside an arc, where one begins, or the last
  run_has : (b : ArcRef) (more : List ArcRef) (x : V) (r : List V) → StitchFrom table x (b ∷ more) r → (v : V) → Has v r →
      ((b' : ArcRef) × Has b' (b ∷ more) × BeginsAt table v b') ⊎ ((¬ Stop v) ⊎ (v ≡ last_of x r))
  run_has b [] x r st v h =
      elim (Has-append v st.0 st.1 (subst (λ w. Has v w) st.3 h)) [
        | inr k ↦ absurd (subst (λ w. Has v w) st.4 k)
        | inl k ↦ elim (last_or_inner x v st.0 k) [
          | inl e ↦ inr (inr (e ∙ sym (ap (λ w. last_of x w) st.3 ∙ last_join x st.0 st.1 ∙ ap (λ w. last_of (last_of x st.0) w) st.4)))
          | inr t ↦ inr (inl (along_free b (x ∷ st.0) st.2 t.0 v t.1 t.2))
        ]
      ]
  run_has b (b' ∷ more) x r st v h =
      elim (Has-append v st.0 st.1 (subst (λ w. Has v w) st.3 h)) [
        | inr k ↦ elim (run_has b' more (last_of x st.0) st.1 st.4 v k) [
          | inl t ↦ inl (t.0, inr t.1, t.2)
          | inr (inl n) ↦ inr (inl n)
          | inr (inr e) ↦ inr (inr (e ∙ sym (ap (λ w. last_of x w) st.3 ∙ last_join x st.0 st.1)))
        ]
        | inl k ↦ elim (last_or_inner x v st.0 k) [
          | inl e ↦ inl (b', inr (inl refl), (st.4.0, st.4.2 ∙ ap (λ w. Some (w ∷ st.4.0)) (sym e)))
          | inr t ↦ inr (inl (along_free b (x ∷ st.0) st.2 t.0 v t.1 t.2))
        ]
      ]

  open_inner : (c : List V) (used : List ArcRef) → Open c used → (p v q : V) → Passes p v q c → ¬ Stop v
  open_inner c [] k p v q h j = k.run.some refl
  open_inner [] (b ∷ more) k p v q h j = h
  open_inner (x ∷ r) (b ∷ more) k p v q h j =
      elim (run_passes b more x r k.run.stitch p v q h) [ inl t ↦ k.meets t.0 v t.1 t.2 j | inr n ↦ n j ]

  loop_free : (c : List V) (used : List ArcRef) (k : Loop c used) → (v : V) → Has v k.round → ¬ Stop v
  loop_free c used k v h = go k.from k.round k.run.some k.run.stitch k.meets h
    where
      go : (from : List ArcRef) (round : List V) → ¬ (from ≡ []) → StitchTo table from (closed round) →
          ((b : ArcRef) (v : V) → Has b from → BeginsAt table v b → ¬ Stop v) → Has v round → ¬ Stop v
      go [] round n st m h j = n refl
      go (b ∷ more) [] n st m h j = h
      go (b ∷ more) (x ∷ l) n st m (inl e) j = m b v (inl refl) (st.0, st.2 ∙ ap (λ w. Some (w ∷ st.0)) (sym e)) j
      go (b ∷ more) (x ∷ l) n st m (inr h) j =
          elim (run_has b more x (l ++ (x ∷ [])) st v (Has-append_left v l (x ∷ []) h)) [
            | inl t ↦ m t.0 v t.1 t.2 j
            | inr (inl k) ↦ k j
            | inr (inr e) ↦ m b v (inl refl) (st.0, st.2 ∙ ap (λ w. Some (w ∷ st.0)) (sym (e ∙ last-snoc x x l))) j
          ]

  -- the joined arcs as a map: the open ones as lines, the loops as rings
  abbrev InParts : Geometry V → List V → List ArcRef → Type 0
  InParts j c used = (IsLineOf j c × Open c used) ⊎ ((k : Loop c used) × IsRingOf j k.round)

  record Parts (arcs : List (List V)) (pieces : List (List ArcRef)) : Type 0 where
    j : Geometry V
    lines : (l : List V) → IsLineOf j l → Has l arcs × (used : List ArcRef) × Open l used
    rings : (q : List V) → IsRingOf j q → (c : List V) × Has c arcs × (used : List ArcRef) × (k : Loop c used) × (q ≡ k.round)
    pairs : Pairwise (InParts j) arcs pieces

  parts : (arcs : List (List V)) (pieces : List (List ArcRef)) → Pairwise (λ c used. Open c used ⊎ Loop c used) arcs pieces → Parts arcs pieces
  parts [] [] p = record { j = record { lines = []; rings = [] }; lines = λ l h. absurd h; rings = λ q h. absurd h; pairs = tt }
  parts [] (us ∷ pieces) p = absurd p
  parts (c ∷ arcs) [] p = absurd p
  parts (c ∷ arcs) (us ∷ pieces) p = go p.0 (parts arcs pieces p.1)
    where
      wider : (j j' : Geometry V) → ((l : List V) → IsLineOf j l → IsLineOf j' l) → ((q : List V) → IsRingOf j q → IsRingOf j' q) →
          Pairwise (InParts j) arcs pieces → Pairwise (InParts j') arcs pieces
      wider j j' f h p = Pairwise-weaker (InParts j) (InParts j') arcs pieces
          (λ x y i k. elim k [ inl m ↦ inl (f x m.0, m.1) | inr m ↦ inr (m.0, h m.0.round m.1) ]) p

      go : Open c us ⊎ Loop c us → Parts arcs pieces → Parts (c ∷ arcs) (us ∷ pieces)
      go (inl k) t =
          let j' : Geometry V = record { lines = c ∷ t.j.lines; rings = t.j.rings } in record {
            j = j';
            lines = λ l h. elim h [
              | inl e ↦ (inl e, us, subst (λ w. Open w us) (sym e) k)
              | inr i ↦ (let s = t.lines l i in (inr s.0, s.1, s.2))
            ];
            rings = λ q h. let s = t.rings q h in (s.0, inr s.1, s.2, s.3, s.4);
            pairs = (inl (inl refl, k), wider t.j j' (λ l h. inr h) (λ q h. h) t.pairs);
          }
      go (inr k) t =
          let j' : Geometry V = record { lines = t.j.lines; rings = k.round ∷ t.j.rings } in record {
            j = j';
            lines = λ l h. let s = t.lines l h in (inr s.0, s.1, s.2);
            rings = λ q h. elim h [
              | inl e ↦ (c, inl refl, us, k, e)
              | inr i ↦ (let s = t.rings q i in (s.0, inr s.1, s.2, s.3, s.4))
            ];
            pairs = (inr (k, inl refl), wider t.j j' (λ l h. h) (λ q h. inr h) t.pairs);
          }

  module _ (arcs : List (List V)) (pieces : List (List ArcRef)) (joined : AreJoined cmp g u table arcs pieces) where
    P : Parts arcs pieces
    P = parts arcs pieces joined.each

    abbrev j : Geometry V
    j = P.j

    sj : IsSound j
    sj = record {
      lines = λ l h. let t = P.lines l h in list_line cmp o same dec u su table all t.1 l t.2.run.some t.2.run.stitch t.2.run.once;
      rings = λ q h.
          let t = P.rings q h in
          subst IsRing (sym t.4) (list_ring cmp o same dec u su table all t.3.from t.3.round t.3.run.some t.3.run.stitch t.3.run.once);
    }

    to_closed : (p q : V) (r : List V) → Beside p q (around r) → Beside p q (closed r)
    to_closed p q r (inl h) = inl (around_steps p q r h)
    to_closed p q r (inr h) = inr (around_steps q p r h)

    segs : (p q : V) → SegmentOf j p q → SegmentOf g p q
    segs p q (inl (l, i, b)) = let t = P.lines l i in run_segment t.1 l t.2.run.stitch t.2.run.stays p q b
    segs p q (inr (r, i, b)) =
        let t = P.rings r i in
        run_segment t.3.from (closed t.3.round) t.3.run.stitch t.3.run.stays p q (subst (λ w. Beside p q (closed w)) t.4 (to_closed p q r b))

    junction_left : (v : V) → JunctionOf j v → Stop v
    junction_left v h = elim (law j sj v h) [
      | inl k ↦ (P.lines k.0 k.1).2.ends v k.2
      | inr t ↦ law_back g sg v (three_map (SegmentOf j) (SegmentOf g) segs v t)
    ]

    -- the whole map with the joined arcs besides: its arcs are the same
    abbrev w : Geometry V
    w = both_of j u

    sw : IsSound w
    sw = record {
      lines = λ l h. elim (Has-append l j.lines u.lines h) [ inl k ↦ sj.lines l k | inr k ↦ su.lines l k ];
      rings = λ r h. elim (Has-append r j.rings u.rings h) [ inl k ↦ sj.rings r k | inr k ↦ su.rings r k ];
    }

    within : IsPartOf u w
    within = record { lines = λ l h. Has-append_right l j.lines u.lines h; rings = λ r h. Has-append_right r j.rings u.rings h }

    segs_w : (p q : V) → SegmentOf w p q → SegmentOf u p q
    segs_w p q (inl (l, i, b)) = elim (Has-append l j.lines u.lines i) [
      | inl k ↦ part_segment cmp o same dec g u part p q (segs p q (inl (l, k, b)))
      | inr k ↦ inl (l, k, b)
    ]
    segs_w p q (inr (r, i, b)) = elim (Has-append r j.rings u.rings i) [
      | inl k ↦ part_segment cmp o same dec g u part p q (segs p q (inr (r, k, b)))
      | inr k ↦ inr (r, k, b)
    ]

    alike_w : Alike w u
    alike_w = record {
      segments = segs_w;
      segments_back = part_segment cmp o same dec u w within;
      junctions = λ v h. elim (law w sw v h) [
        | inl k ↦ elim (Has-append k.0 j.lines u.lines k.1) [
          | inl i ↦ part_junction cmp o same dec g u part v ((P.lines k.0 i).2.ends v k.2)
          | inr i ↦ inl (k.0, i, k.2)
        ]
        | inr t ↦ law_back u su v (three_map (SegmentOf w) (SegmentOf u) segs_w v t)
      ];
      junctions_back = part_junction cmp o same dec u w within;
    }

    all_w : AreArcsOf cmp w table
    all_w = arcs_same cmp o same dec u w (alike_back cmp o same dec w u alike_w) table all

    -- the list of a loop
    list_w : (c : List V) (used : List ArcRef) (k : Loop c used) → IsRingOf j k.round → IsRingList cmp (JunctionOf w) table k.round used
    list_w c used k i =
        subst (IsRingList cmp (JunctionOf w) table k.round) (sym k.list)
        (ring_turned cmp o same dec w sw table all_w k.round (Has-append_left k.round j.rings u.rings i) k.from
        (record { some = k.run.some; around = (k.round, ([], k.round, refl, sym (append-nil k.round)), k.run.stitch); once = k.run.once }))

    list_u : (c : List V) (used : List ArcRef) (k : Loop c used) → IsRingOf j k.round → IsRingList cmp (JunctionOf u) table k.round used
    list_u c used k i =
        let s = list_w c used k i in (s.0, s.1, turned_alike cmp o same dec w u alike_w k.round s.0 s.1 s.2, s.3)

    -- each segment that stays is on a joined arc
    segs_back : (p q : V) → SegmentOf g p q → SegmentOf j p q
    segs_back p q s =
        let t = ((kept_laws cmp o same dec u su table all g part).segments p q).0 s in
        let n = joined.all t.0 t.2 in
        let c = pairwise_used (InParts j) arcs pieces P.pairs n.0 t.0 n.1 in
        elim (pairwise_at (InParts j) arcs pieces P.pairs n.0 c.0 c.1) [
          | inl k ↦ inl (c.0, k.0, (line_uses cmp o same dec u su table all c.0 (pieces_at pieces n.0) k.1.run.stitch t.0 t.1 p q t.3 t.4).1 n.1)
          | inr k ↦ inr (
            k.0.round,
            k.1,
            (ring_uses cmp o same dec w sw table all_w k.0.round (Has-append_left k.0.round j.rings u.rings k.1) (pieces_at pieces n.0)
                (list_w c.0 (pieces_at pieces n.0) k.0 k.1) t.0 t.1 p q t.3 t.4).1 n.1,
          )
        ]

    junction_right : (v : V) → Stop v → JunctionOf j v
    junction_right v h = elim (law g sg v h) [
      | inr t ↦ law_back j sj v (three_map (SegmentOf g) (SegmentOf j) segs_back v t)
      | inl k ↦
          let e = end_side v k.0 (sg.lines k.0 k.1) k.2 in
          elim (segs_back v e.0 (inl (k.0, k.1, e.1))) [
            | inl (l, i, b) ↦ elim (line_visit v e.0 l b) [
              | inl m ↦ inl (l, i, m)
              | inr (p, inl m) ↦ (let t = P.lines l i in absurd (open_inner l t.1 t.2 e.0 v p m h))
              | inr (p, inr m) ↦ (let t = P.lines l i in absurd (open_inner l t.1 t.2 p v e.0 m h))
            ]
            | inr (q, i, b) ↦ (let t = P.rings q i in
                absurd (loop_free t.0 t.2 t.3 v (subst (λ w. Has v w) t.4 (on_ring v q (beside_has v e.0 (closed q) (to_closed v e.0 q b)))) h))
          ]
    ]
      where
        beside_has : (v p : V) (l : List V) → Beside v p l → Has v l
        beside_has v p l (inl s) = Steps-left v p l s
        beside_has v p l (inr s) = Steps-right p v l s

        on_ring : (v : V) (q : List V) → Has v (closed q) → Has v q
        on_ring v [] h = h
        on_ring v (x ∷ l) (inl e) = inl e
        on_ring v (x ∷ l) (inr h) = elim (Has-append v l (x ∷ []) h) [ inl k ↦ inr k | inr (inl e) ↦ inl e | inr (inr z) ↦ absurd z ]

    alike : Alike j g
    alike = record { segments = segs; segments_back = segs_back; junctions = junction_left; junctions_back = junction_right }

    abbrev test : V → Bool
    test = is_junction cmp j

    line_chain : (c : List V) (used : List ArcRef) → IsLineOf j c → Open c used → IsChainOf cmp j c
    line_chain [] used i k = let n : 2 ≤ 0 = (sj.lines [] i).long in absurd (omega arith)
    line_chain (x ∷ []) used i k = let n : 2 ≤ 1 = (sj.lines (x ∷ []) i).long in absurd (omega arith)
    line_chain (x ∷ (y ∷ r)) used i k =
        (subst (λ z. Each (IsChainOf cmp j) z) (cut_one test (x ∷ []) y r inner far)
        (line_pieces j sj dec (AtMost cmp) test (stops cmp o same dec j sj) (passes cmp o same dec j sj) x (y ∷ r) i).0).0
      where
        inner : (v : V) → Has v (front_of y r) → test v ≡ false
        inner v h = go (test v) refl
          where
            go : (b : Bool) → test v ≡ b → b ≡ false
            go false e = refl
            go true e = let t = front_passes v x y r h in
                absurd (open_inner (x ∷ (y ∷ r)) used k t.0 v t.1 t.2 (junction_left v (stops cmp o same dec j sj v e)))

        far : test (last_of y r) ≡ true
        far = go (test (last_of y r)) refl
          where
            go : (b : Bool) → test (last_of y r) ≡ b → b ≡ true
            go true e = refl
            go false e = absurd (passes cmp o same dec j sj (last_of y r) e (inl (x ∷ (y ∷ r), i, inr refl)))

    loop_chain : (c : List V) (used : List ArcRef) (k : Loop c used) → IsRingOf j k.round → IsChainOf cmp j c
    loop_chain c used k i =
        let t = rotation_at k.round k.first k.rest k.turned in
        let h = ring_loop j sj dec (AtMost cmp) test (stops cmp o same dec j sj) (passes cmp o same dec j sj) t.0 t.1 k.first (subst (IsRingOf j) t.2 i)
        (λ v m n. loop_free c used k v (subst (λ z. Has v z) (sym t.2) m) (junction_left v n))
        (λ v m. k.least v (subst (λ z. Has v z) (sym t.2) m)) in
        subst (IsChainOf cmp j) (sym k.arc) (subst (λ z. IsChainOf cmp j (closed (k.first ∷ z))) (sym t.3) h)

    arc_chain : (c : List V) → Has c arcs → IsChainOf cmp g c
    arc_chain c h =
        let t = partner (InParts j) arcs pieces P.pairs c h in
        chain_alike cmp o same dec j g alike c (elim t.2 [ inl k ↦ line_chain c t.0 k.0 k.1 | inr k ↦ loop_chain c t.0 k.0 k.1 ])

    covered : (p q : V) → SegmentOf g p q → (c : List V) × Has c arcs × Beside p q c
    covered p q s = go (segs_back p q s)
      where
        turn : (a : List V) (x : V) (l : List V) → IsRing a → IsRotation a (x ∷ l) → Beside p q (closed a) → Beside p q (closed (x ∷ l))
        turn [] x l k ro b = let n : 3 ≤ 0 = k.long in absurd (omega arith)
        turn (y ∷ a) x l k ro b =
            let n : 3 ≤ length (y ∷ a) = k.long in
            let m : 1 ≤ length a = omega (arith, n) in
            elim b [ inl s ↦ inl (rotation_steps y a x l m ro p q s) | inr s ↦ inr (rotation_steps y a x l m ro q p s) ]

        go : SegmentOf j p q → (c : List V) × Has c arcs × Beside p q c
        go (inl (l, i, b)) = (l, (P.lines l i).0, b)
        go (inr (r, i, b)) =
            let t = P.rings r i in (
              t.0,
              t.1,
              subst (λ z. Beside p q z) (sym t.3.arc) (turn t.3.round t.3.first t.3.rest (subst IsRing t.4 (sj.rings r i)) t.3.turned
                  (subst (λ z. Beside p q (closed z)) t.4 (to_closed p q r b))),
            )

    -- the joined arcs are those of what is left
    pub joined_arcs : AreArcsOf cmp g arcs
    joined_arcs = covering_arcs cmp o same dec g sg arcs joined.sorted joined.forward arc_chain covered

    -- and the old arcs that they were joined of are their pieces
    pub joined_pieces : IsRefinementOf cmp g u arcs table pieces
    joined_pieces = record {
      old = joined_arcs;
      new = all;
      cut = Pairwise-weaker (InParts j) (ArePiecesOfArc cmp Stop (JunctionOf u) table) arcs pieces piece P.pairs;
    }
      where
        not_free : (c : List V) (used : List ArcRef) → IsChainOf cmp g c → Open c used → ¬ Free Stop c
        not_free [] used h k f = h
        not_free (x ∷ r) used h k f = f x (inl refl) (k.ends x (inl refl))

        piece : (c : List V) (used : List ArcRef) → Has c arcs → InParts j c used → ArePiecesOfArc cmp Stop (JunctionOf u) table c used
        piece c used h (inl k) = inl (not_free c used (arc_chain c h) k.1, k.1.run.stitch)
        piece c used h (inr (k, i)) =
            inr (
              k.first ∷ k.rest,
              k.arc,
              (λ v m. loop_free c used k v (back k v (subst (λ z. Has v z) k.arc m))),
              ring_list_rotated cmp (JunctionOf u) table k.round (k.first ∷ k.rest) used k.turned (list_u c used k i),
            )
          where
            back : (k : Loop c used) (v : V) → Has v (closed (k.first ∷ k.rest)) → Has v k.round
            back k v (inl e) = rotation_has (k.first ∷ k.rest) k.round (rotation_back k.round (k.first ∷ k.rest) k.turned) v (inl e)
            back k v (inr m) =
                rotation_has (k.first ∷ k.rest) k.round (rotation_back k.round (k.first ∷ k.rest) k.turned) v
                (elim (Has-append v k.rest (k.first ∷ []) m) [ inl n ↦ inr n | inr (inl e) ↦ inl e | inr (inr z) ↦ absurd z ])
