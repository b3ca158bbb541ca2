-- The segments and junctions of what is left of a map, told by the arcs that are kept.
use Rattle.std.proofs.Common.{◌≡◌, ℕ, false, true, cond, List, [], ◌∷◌, reverse, ◌⊎◌, inl, inr, refl, sym, ap, ◌∙◌, subst, ◌↔◌, Some, slice_get, option_map}
use Rattle.std.specs.Cmp.{IsTotalOrder}
use Rattle.std.specs.FinMap.{IsAntisymmetric}
use Rattle.std.specs.declared.cmp.Ordering.{Ordering}
use Rattle.theory.proofs.ArcNumbers.{along_flipped}
use Rattle.theory.proofs.ArcsOfMap.{are_arcs}
use Rattle.theory.proofs.Chains.{Chain-over}
use Rattle.theory.proofs.CoveringChains.{begins_along}
use Rattle.theory.proofs.Junctions.{junction_law}
use Rattle.theory.proofs.Lists.{last_join}
use Rattle.theory.proofs.ListsOfLists.{get_has}
use Rattle.theory.proofs.OneTopology.{arcs_unique}
use Rattle.theory.proofs.Pieces.{SegmentOf-flip}
use Rattle.theory.proofs.RefinementLaws.{part_junction, part_segment}
use Rattle.theory.proofs.Reversing.{IsChain-reverse, Steps-reverse, reverse-last, same_beside}
use Rattle.theory.proofs.RingListStart.{one_start, second}
use Rattle.theory.proofs.SegmentsOnce.{segments_once}
use Rattle.theory.proofs.ValidMaps.{along_same, ends_list}
use Rattle.theory.proofs.TopologyExists.{line_stitched, ring_stitched}
use Rattle.theory.proofs.UsersOfArcs.{line_uses, ring_uses}
use Rattle.theory.proofs.VisitedAgain.{Trail-turn, ring_turn}
use Rattle.theory.specs.ArcNumbers.{ArcRef, StitchFrom, StitchTo, along, flipped}
use Rattle.theory.specs.Arcs.{AreArcsOf, IsArcOf}
use Rattle.theory.specs.Chain.{Free}
use Rattle.theory.specs.Geometry.{AtMost, Geometry, IsChainOf, IsLineOf, IsRingOf, IsSound, JunctionOf, SegmentOf}
use Rattle.theory.specs.Lists.{Beside, EndOf, Passes, front_of, last_of}
use Rattle.theory.specs.Refinement.{IsPartOf}
use Rattle.theory.specs.Healing.{EndBeside, IsKept, IsLineEnd, KeptLaws, ThreeMeet}
use Rattle.theory.specs.Segments.{OnThree}
use Rattle.theory.specs.Validity.{BeginsAt, EndsList}
use Rattle.theory.specs.Topology.{IsRingList}
use Rattle.theory.specs.TopologyFunction.{arcs_of, line_refs, ring_refs}

-- the end of what used arcs stitch to is where the last one ends
last_begins : {V : Type 0} (arcs : List (List V)) (b : ArcRef) (used : List ArcRef) (x : V) (r : List V) → StitchFrom arcs x (b ∷ used) r →
    (v : V) → v ≡ last_of x r → BeginsAt arcs v (flipped (last_of b used))
last_begins arcs b [] x r h v e =
    let f : v ≡ last_of x h.0 = e ∙ ap (λ w. last_of x w) h.3 ∙ last_join x h.0 h.1 ∙ ap (λ w. last_of (last_of x h.0) w) h.4 in
    (reverse (front_of x h.0), along_flipped arcs b (x ∷ h.0) h.2 ∙ ap Some (reverse-last x h.0) ∙ ap (λ w. Some (w ∷ reverse (front_of x h.0))) (sym f))
last_begins arcs b (c ∷ used) x r h v e =
    last_begins arcs c used (last_of x h.0) h.1 h.4 v (e ∙ ap (λ w. last_of x w) h.3 ∙ last_join x h.0 h.1)

pub list_ends : {V : Type 0} (arcs : List (List V)) (used : List ArcRef) (l : List V) → StitchTo arcs used l → (v : V) → EndOf v l → EndsList arcs v used
list_ends arcs [] l st v h = absurd (subst (EndOf v) st h)
list_ends arcs (b ∷ used) [] st v h = absurd h
list_ends arcs (b ∷ used) (x ∷ r) st v (inl e) = inl (st.0, st.2 ∙ ap (λ w. Some (w ∷ st.0)) (sym e))
list_ends arcs (b ∷ used) (x ∷ r) st v (inr e) = inr (last_begins arcs b used x r st v e)

-- a part of a sound map is sound
pub part_sound : {V : Type 0} (g u : Geometry V) → IsSound u → IsPartOf g u → IsSound g
part_sound g u su part = record {
  lines = λ l h. su.lines l (part.lines l h);
  rings = λ r h. su.rings r (part.rings r h);
}

module _ {V : Type 0} (cmp : V → V → Ordering) (o : IsTotalOrder cmp) (same : IsAntisymmetric cmp) (dec : (a b : V) → Dec (a ≡ b))
    (u : Geometry V) (su : IsSound u) (table : List (List V)) (all : AreArcsOf cmp u table)
    (g : Geometry V) (part : IsPartOf g u) where
  pub sg : IsSound g
  sg = part_sound g u su part

  abbrev pub Kept : ℕ → Type 0
  Kept = IsKept cmp g u table

  same_arcs : arcs_of cmp u ≡ table
  same_arcs = arcs_unique cmp o same dec u (arcs_of cmp u) table (are_arcs cmp o same dec u su) all

  -- each line and each ring of the whole map has its list
  pub line_list : (l : List V) → IsLineOf u l → StitchTo table (line_refs cmp u l) l
  line_list l h = subst (λ w. StitchTo w (line_refs cmp u l) l) same_arcs (line_stitched cmp o same dec u su l h)

  pub ring_list : (r : List V) → IsRingOf u r → IsRingList cmp (JunctionOf u) table r (ring_refs cmp u r)
  ring_list r h = subst (λ w. IsRingList cmp (JunctionOf u) w r (ring_refs cmp u r)) same_arcs (ring_stitched cmp o same dec u su r h)

  grow : (v : V) → JunctionOf g v → JunctionOf u v
  grow = part_junction cmp o same dec g u part

  chain_of : (k : ℕ) (d : List V) → slice_get table k ≡ Some d → IsChainOf cmp u d
  chain_of k d e = (all.arcs_only d (get_has table k d e)).chain

  kept_by : (k : ℕ) (d : List V) (a b : V) → slice_get table k ≡ Some d → Beside a b d → SegmentOf g a b → Kept k
  kept_by k d a b e h (inl (l, i, s)) =
      let st = line_list l (part.lines l i) in
      inl (l, line_refs cmp u l, i, st, (line_uses cmp o same dec u su table all l (line_refs cmp u l) st k d a b e h).0 s)
  kept_by k d a b e h (inr (r, i, s)) =
      let st = ring_list r (part.rings r i) in
      inr (r, ring_refs cmp u r, i, st, (ring_uses cmp o same dec u su table all r (part.rings r i) (ring_refs cmp u r) st k d a b e h).0 s)

  -- all segments of a kept arc stay
  pub kept_stays : (k : ℕ) (d : List V) → Kept k → slice_get table k ≡ Some d → (a b : V) → Beside a b d → SegmentOf g a b
  kept_stays k d (inl (l, used, i, st, us)) e a b h = inl (l, i, (line_uses cmp o same dec u su table all l used st k d a b e h).1 us)
  kept_stays k d (inr (r, used, i, st, us)) e a b h =
      inr (r, i, (ring_uses cmp o same dec u su table all r (part.rings r i) used st k d a b e h).1 us)

  abbrev Segments : V → V → Type 0
  Segments a b = (k : ℕ) × (d : List V) × Kept k × (slice_get table k ≡ Some d) × Beside a b d

  segments : (a b : V) → SegmentOf g a b ↔ Segments a b
  segments a b = (
    (λ s.
        let t = (segments_once cmp o same dec u su table all).in_an_arc a b (part_segment cmp o same dec g u part a b s) in
        (t.0, t.1, kept_by t.0 t.1 a b t.2 t.3 s, t.2, t.3)),
    (λ t. kept_stays t.0 t.1 t.2 t.3 a b t.4),
  )

  -- at a junction of the whole map, a segment that stays begins a kept arc
  pub arc_from : (v p : V) → JunctionOf u v → SegmentOf g v p → EndBeside Kept table v p
  arc_from v p j s =
      let t = (segments v p).0 s in
      let k : IsChainOf cmp u t.1 = chain_of t.0 t.1 t.3 in
      elim t.4 [
        | inl h ↦ (let q = begins_along cmp u t.1 k v p j h in
            (record { arc = t.0; reversed = false }, t.2, q.0, ap (option_map (λ c. cond false (reverse c) c)) t.3 ∙ ap Some q.1))
        | inr h ↦ (let q = begins_along cmp u (reverse t.1) (IsChain-reverse (SegmentOf u) (JunctionOf u) (AtMost cmp) (SegmentOf-flip u su dec) t.1 k) v p j (Steps-reverse p v t.1 h) in
            (record { arc = t.0; reversed = true }, t.2, q.0, ap (option_map (λ c. cond true (reverse c) c)) t.3 ∙ ap Some q.1))
      ]

  -- and a kept arc begins with a segment that stays
  pub end_segment : (v p : V) → EndBeside Kept table v p → SegmentOf g v p
  end_segment v p (a, k, q, e) =
      let t = along_same table a (v ∷ (p ∷ q)) e in
      kept_stays a.arc t.0 k t.1 v p (same_beside v p (v ∷ (p ∷ q)) t.0 t.2 (inl (inl (refl, refl))))

  three_map : (S T : V → V → Type 0) (v : V) → ((p : V) → S v p → T v p) → OnThree S v → OnThree T v
  three_map S T v f (p, q, r, sp, sq, sr, pq, pr, qr) = (p, q, r, f p sp, f q sq, f r sr, pq, pr, qr)

  line_end : (v : V) → ((l : List V) × IsLineOf g l × EndOf v l) ↔ IsLineEnd g table v
  line_end v = (
    (λ (l, i, h). (l, line_refs cmp u l, i, line_list l (part.lines l i), list_ends table (line_refs cmp u l) l (line_list l (part.lines l i)) v h)),
    (λ (l, used, i, st, h). (l, i, ends_list table used l st v h)),
  )

  law : (v : V) → JunctionOf g v ↔ (((l : List V) × IsLineOf g l × EndOf v l) ⊎ OnThree (SegmentOf g) v)
  law v = junction_law (IsLineOf g) (IsRingOf g) dec (λ l h. Trail-turn l (sg.lines l h).once) (λ r h. ring_turn r (sg.rings r h)) v

  by_neighbours : (v : V) → JunctionOf g v ↔ (IsLineEnd g table v ⊎ OnThree (EndBeside Kept table) v)
  by_neighbours v = (
    (λ j. elim ((law v).0 j) [ inl h ↦ inl ((line_end v).0 h) | inr t ↦ inr (three_map (SegmentOf g) (EndBeside Kept table) v (λ p s. arc_from v p (grow v j) s) t) ]),
    (λ h. (law v).1 (elim h [ inl k ↦ inl ((line_end v).1 k) | inr t ↦ inr (three_map (EndBeside Kept table) (SegmentOf g) v (λ p s. end_segment v p s) t) ])),
  )

  meet : (v : V) → OnThree (EndBeside Kept table) v → ThreeMeet Kept table v
  meet v (p, q, r, (a, ka, sa, ea), (b, kb, sb, eb), (c, kc, sc, ec), pq, pr, qr) = (
    a,
    b,
    c,
    ka,
    kb,
    kc,
    (p ∷ sa, ea),
    (q ∷ sb, eb),
    (r ∷ sc, ec),
    apart a b p q sa sb ea eb pq,
    apart a c p r sa sc ea ec pr,
    apart b c q r sb sc eb ec qr,
  )
    where
      apart : (b c : ArcRef) (p q : V) (s t : List V) → along table b ≡ Some (v ∷ (p ∷ s)) → along table c ≡ Some (v ∷ (q ∷ t)) → ¬ (p ≡ q) → ¬ (b ≡ c)
      apart b c p q s t e f n k =
          let m : Some (v ∷ (p ∷ s)) ≡ Some (v ∷ (q ∷ t)) = sym e ∙ ap (λ w. along table w) k ∙ f in
          let h : p ≡ q = cc in n h

  met : (v : V) → ThreeMeet Kept table v → OnThree (EndBeside Kept table) v
  met v (a, b, c, ka, kb, kc, ha, hb, hc, ab, ac, bc) =
      let p = first a ha in
      let q = first b hb in
      let r = first c hc in
      (p.0, q.0, r.0, (a, ka, p.1, p.2), (b, kb, q.1, q.2), (c, kc, r.1, r.2), apart a b ab p.0 p.1 p.2 q.0 q.1 q.2, apart a c ac p.0 p.1 p.2 r.0 r.1 r.2, apart b c bc q.0 q.1 q.2 r.0 r.1 r.2)
    where
      first : (b : ArcRef) → BeginsAt table v b → (z : V) × (q : List V) × (along table b ≡ Some (v ∷ (z ∷ q)))
      first b h =
          let s = second cmp o same dec u su table all b v h.0 h.1 in
          (s.0, s.1, h.1 ∙ ap (λ w. Some (v ∷ w)) s.2)

      apart : (b c : ArcRef) → ¬ (b ≡ c) → (y : V) (q : List V) → along table b ≡ Some (v ∷ (y ∷ q)) → (z : V) (s : List V) → along table c ≡ Some (v ∷ (z ∷ s)) → ¬ (y ≡ z)
      apart b c n y q e z s f k =
          n (one_start cmp o same dec u su table all b c v y q s e (subst (λ w. along table c ≡ Some (v ∷ (w ∷ s))) (sym k) f))

  junctions : (v : V) → JunctionOf g v ↔ (IsLineEnd g table v ⊎ ThreeMeet Kept table v)
  junctions v = (
    (λ j. elim ((by_neighbours v).0 j) [ inl h ↦ inl h | inr t ↦ inr (meet v t) ]),
    (λ h. (by_neighbours v).1 (elim h [ inl k ↦ inl k | inr t ↦ inr (met v t) ])),
  )

  inner_free : (d : List V) → IsChainOf cmp u d → (a v b : V) → Passes a v b d → ¬ JunctionOf g v
  inner_free [] k a v b h j = h
  inner_free (x ∷ r) k a v b h j = k.inner_free a v b h (grow v j)

  stands : (k : ℕ) (d : List V) → Kept k → slice_get table k ≡ Some d →
      ((v : V) → EndOf v d → JunctionOf g v) ⊎ Free (JunctionOf u) d → IsArcOf cmp g d
  stands k d kept e h = record { chain = chain d refl (chain_of k d e) h; forward = (all.arcs_only d (get_has table k d e)).forward }
    where
      chain : (c : List V) → c ≡ d → IsChainOf cmp u c → ((v : V) → EndOf v c → JunctionOf g v) ⊎ Free (JunctionOf u) c → IsChainOf cmp g c
      chain [] f c h = absurd c
      chain (x ∷ r) f c h =
          Chain-over (SegmentOf u) (SegmentOf g) (JunctionOf u) (JunctionOf g) (AtMost cmp) x r c
          (λ p q s. kept_stays k d kept e p q (subst (λ w. Beside p q w) f (inl s))) (λ a v b p j. c.inner_free a v b p (grow v j))
          (elim h [
            | inl j ↦ inl (j x (inl refl), j (last_of x r) (inr refl))
            | inr free ↦ elim c.ends [
              | inl j ↦ absurd (free x (inl refl) j.0)
              | inr l ↦ inr (l.0, (λ v i j. free v i (grow v j)), l.2)
            ]
          ])

  pub kept_laws : KeptLaws cmp g u table
  kept_laws = record {
    segments = segments;
    whole = kept_by;
    junctions = junctions;
    by_neighbours = by_neighbours;
    inner_free = λ k d e. inner_free d (chain_of k d e);
    loop_free = λ k d e free v h j. free v h (grow v j);
    stands = λ k d kept e j. stands k d kept e (inl j);
    loop_holds = λ k d kept e free. stands k d kept e (inr free);
  }
