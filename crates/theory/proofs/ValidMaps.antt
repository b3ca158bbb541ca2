-- Lists of arcs that stand make lines and rings; where each arc is used, and ends where the map has a junction, the arcs are those of the map.
use Rattle.std.proofs.Common.{◌≡◌, ◌≤◌, ℕ, Bool, true, false, cond, List, [], ◌∷◌, ◌++◌, length, reverse, inl, inr, refl, sym, ap, ◌∙◌, subst, arith, Some, slice_get}
use Rattle.std.proofs.lemmas.List.{length-append}
use Rattle.std.specs.Cmp.{IsTotalOrder}
use Rattle.std.specs.FinMap.{IsAntisymmetric}
use Rattle.std.specs.declared.cmp.Ordering.{Ordering}
use Rattle.theory.proofs.ArcNumbers.{along_flipped, along_get, along_used, taken_of, to_from}
use Rattle.theory.proofs.ArcsAsMap.{arcs_same, three_map}
use Rattle.theory.proofs.ClosedLists.{around_steps, closed_steps, rotated_steps}
use Rattle.theory.proofs.Junctions.{junction_law}
use Rattle.theory.proofs.Lists.{Steps-join, last_join}
use Rattle.theory.proofs.ListsOfLists.{get_has}
use Rattle.theory.proofs.OneTopology.{along_chain}
use Rattle.theory.proofs.RefinementLaws.{chain_trail}
use Rattle.theory.proofs.Reversing.{last_back, reverse-last, same_beside}
use Rattle.theory.proofs.RingListStart.{one_start, second}
use Rattle.theory.proofs.Rotations.{rotation_back, rotation_ring}
use Rattle.theory.proofs.SegmentsOnce.{segments_once}
use Rattle.theory.proofs.ValidArcs.{are_arcs, sound}
use Rattle.theory.proofs.Stitching.{stitched_beside}
use Rattle.theory.proofs.UsersOfArcs.{line_uses, list_uses}
use Rattle.theory.proofs.VisitedAgain.{Trail-turn, ring_turn}
use Rattle.theory.specs.ArcNumbers.{ArcRef, StitchFrom, StitchTo, Uses, UsesOnce, along, flipped}
use Rattle.theory.specs.Arcs.{AreArcsOf}
use Rattle.theory.specs.Chain.{SameArc}
use Rattle.theory.specs.Geometry.{Geometry, IsChainOf, IsLineOf, IsRingOf, IsSound, JunctionOf, SegmentOf}
use Rattle.theory.specs.LinesAndRings.{IsLine, IsRing, IsRotation, Trail, around, closed}
use Rattle.theory.specs.Lists.{Beside, EndOf, NoTurnBack, Steps, front_of, last_of}
use Rattle.theory.specs.Refinement.{Alike}
use Rattle.theory.specs.Segments.{OnThree}
use Rattle.theory.specs.Validity.{BeginsAt, EndsList, AreValidFor, ThreeBegin}

-- two trails with no segment in common, the one behind the other
Trail-join : {V : Type 0} (x : V) (q s : List V) → Trail (x ∷ q) → Trail (last_of x q ∷ s) →
    ((u v : V) → Steps u v (x ∷ q) → ¬ Beside u v (last_of x q ∷ s)) → Trail (x ∷ (q ++ s))
Trail-join x [] s t k n = k
Trail-join {V} x (y ∷ q) s t k n = (
  (λ w b. subst (λ z. (¬ (x ≡ z)) × (¬ Beside x z (y ∷ (q ++ s)))) (sym b) ((t.0 y refl).0, once)),
  Trail-join y q s t.1 k (λ u v h. n u v (inr h)),
)
  where
    once : ¬ Beside x y (y ∷ (q ++ s))
    once (inl h) = elim (Steps-join x y y q s h) [ inl i ↦ (t.0 y refl).1 (inl i) | inr i ↦ n x y (inl (refl, refl)) (inl i) ]
    once (inr h) = elim (Steps-join y x y q s h) [ inl i ↦ (t.0 y refl).1 (inr i) | inr i ↦ n x y (inl (refl, refl)) (inr i) ]

-- what a used arc runs along is its arc, or the reverse
pub along_same : {V : Type 0} (arcs : List (List V)) (b : ArcRef) (c : List V) → along arcs b ≡ Some c →
    (d : List V) × (slice_get arcs b.arc ≡ Some d) × SameArc c d
along_same {V} arcs b c e = let t = along_get arcs b c e in (t.0, t.1, go b.reversed t.0 t.2)
  where
    go : (r : Bool) (d : List V) → c ≡ cond r (reverse d) d → SameArc c d
    go false d f = inl f
    go true d f = inr f

end_same : {V : Type 0} (v : V) (c d : List V) → SameArc c d → EndOf v c → EndOf v d
end_same v c d (inl e) h = subst (EndOf v) e h
end_same v c [] (inr e) h = subst (EndOf v) e h
end_same v c (y ∷ p) (inr e) h =
    elim (subst (EndOf v) (e ∙ reverse-last y p) h) [ inl k ↦ inr k | inr k ↦ inl (k ∙ last_back y p) ]

-- an end of what used arcs stitch to is an end of an arc that is used
last_end : {V : Type 0} (arcs : List (List V)) (b : ArcRef) (used : List ArcRef) (x : V) (r : List V) → StitchFrom arcs x (b ∷ used) r →
    (k : ℕ) × (c : List V) × Uses k (b ∷ used) × (slice_get arcs k ≡ Some c) × EndOf (last_of x r) c
last_end arcs b [] x r h =
    let t = along_same arcs b (x ∷ h.0) h.2 in
    let e : last_of x r ≡ last_of x h.0 = ap (λ w. last_of x w) h.3 ∙ last_join x h.0 h.1 ∙ ap (λ w. last_of (last_of x h.0) w) h.4 in
    (b.arc, t.0, inl refl, t.1, end_same (last_of x r) (x ∷ h.0) t.0 t.2 (inr e))
last_end arcs b (b' ∷ used) x r h =
    let t = last_end arcs b' used (last_of x h.0) h.1 h.4 in
    let e : last_of x r ≡ last_of (last_of x h.0) h.1 = ap (λ w. last_of x w) h.3 ∙ last_join x h.0 h.1 in
    (t.0, t.1, inr t.2, t.3, subst (λ w. EndOf w t.1) (sym e) t.4)

pub list_end : {V : Type 0} (arcs : List (List V)) (used : List ArcRef) (l : List V) → ¬ (used ≡ []) → StitchTo arcs used l → (v : V) → EndOf v l →
    (k : ℕ) × (c : List V) × Uses k used × (slice_get arcs k ≡ Some c) × EndOf v c
list_end arcs [] l n st v h = absurd (n refl)
list_end arcs (b ∷ used) [] n st v h = absurd h
list_end arcs (b ∷ used) (x ∷ r) n st v (inl e) =
    let t = along_same arcs b (x ∷ st.0) st.2 in
    (b.arc, t.0, inl refl, t.1, end_same v (x ∷ st.0) t.0 t.2 (inl e))
list_end arcs (b ∷ used) (x ∷ r) n st v (inr e) =
    let t = last_end arcs b used x r st in (t.0, t.1, t.2, t.3, subst (λ w. EndOf w t.1) (sym e) t.4)

last_from : {V : Type 0} (arcs : List (List V)) (b : ArcRef) (used : List ArcRef) (x : V) (r : List V) → StitchFrom arcs x (b ∷ used) r →
    (v : V) → BeginsAt arcs v (flipped (last_of b used)) → v ≡ last_of x r
last_from arcs b [] x r h v k =
    let e : Some (v ∷ k.0) ≡ Some (last_of x h.0 ∷ reverse (front_of x h.0)) = sym k.1 ∙ along_flipped arcs b (x ∷ h.0) h.2 ∙ ap Some (reverse-last x h.0) in
    let f : v ≡ last_of x h.0 = cc in
    f ∙ sym (ap (λ w. last_of x w) h.3 ∙ last_join x h.0 h.1 ∙ ap (λ w. last_of (last_of x h.0) w) h.4)
last_from arcs b (c ∷ used) x r h v k =
    last_from arcs c used (last_of x h.0) h.1 h.4 v k ∙ sym (ap (λ w. last_of x w) h.3 ∙ last_join x h.0 h.1)

-- the ends of a list, by its first and its last used arc
pub ends_list : {V : Type 0} (arcs : List (List V)) (used : List ArcRef) (l : List V) → StitchTo arcs used l → (v : V) → EndsList arcs v used → EndOf v l
ends_list arcs [] l st v h = absurd h
ends_list arcs (b ∷ used) [] st v h = absurd st
ends_list arcs (b ∷ used) (x ∷ r) st v (inl h) =
    let e : Some (v ∷ h.0) ≡ Some (x ∷ st.0) = sym h.1 ∙ st.2 in
    inl (let k : v ≡ x = cc in k)
ends_list arcs (b ∷ used) (x ∷ r) st v (inr h) = inr (last_from arcs b used x r st v h)

-- round a ring, and along it from another place
round : {V : Type 0} (r q : List V) → IsRing q → IsRotation r q → (u v : V) → (Steps u v (around r) → Steps u v (closed q)) × (Steps u v (closed q) → Steps u v (around r))
round r [] g ro u v = let n : 3 ≤ 0 = g.long in absurd (omega arith)
round r (x ∷ l) g ro u v =
    let n : 3 ≤ length (x ∷ l) = g.long in (
      (λ h. around_steps u v (x ∷ l) (subst (λ w. Steps u v (around w)) (sym ro.3)
          (rotated_steps u v ro.1 ro.0 (subst (λ w. Steps u v (around w)) ro.2 h)))),
      (λ h. subst (λ w. Steps u v (around w)) (sym ro.2) (rotated_steps u v ro.0 ro.1
          (subst (λ w. Steps u v (around w)) ro.3 (closed_steps u v x l (omega (arith, n)) h)))),
    )

module _ {V : Type 0} (cmp : V → V → Ordering) (o : IsTotalOrder cmp) (same : IsAntisymmetric cmp) (dec : (a b : V) → Dec (a ≡ b))
    (a : Geometry V) (sa : IsSound a) (arcs : List (List V)) (all : AreArcsOf cmp a arcs) where
  -- a list that uses no arc twice stitches to a trail
  pub used_trail : (used : List ArcRef) (x : V) (r : List V) → StitchFrom arcs x used r → UsesOnce used → Trail (x ∷ r)
  used_trail [] x r h u = subst (λ w. Trail (x ∷ w)) (sym h) ((λ y b. absurd b), tt)
  used_trail (b ∷ used) x r h u =
      let t = along_same arcs b (x ∷ h.0) h.2 in
      subst (λ w. Trail (x ∷ w)) (sym h.3)
      (Trail-join x h.0 h.1 (chain_trail cmp o same dec a sa a arcs (x ∷ h.0) (along_chain cmp o same dec a sa arcs all b (x ∷ h.0) h.2))
      (used_trail used (last_of x h.0) h.1 h.4 u.1)
      (λ v w k n. u.0 ((list_uses cmp o same dec a sa arcs all used (last_of x h.0) h.1 h.4 b.arc t.0 v w t.1
      (same_beside v w (x ∷ h.0) t.0 t.2 (inl k))).0 n)))

  -- so it is a line
  pub list_line : (used : List ArcRef) (l : List V) → ¬ (used ≡ []) → StitchTo arcs used l → UsesOnce used → IsLine l
  list_line [] l n st u = absurd (n refl)
  list_line (b ∷ used) [] n st u = absurd st
  list_line (b ∷ used) (x ∷ r) n st u =
      let k : IsChainOf cmp a (x ∷ st.0) = along_chain cmp o same dec a sa arcs all b (x ∷ st.0) st.2 in
      let m : 1 ≤ length st.0 = k.long in
      let e : length r ≡ length (st.0 ++ st.1) = ap length st.3 in
      record {
        long = omega (arith, m, e, length-append st.0 st.1);
        once = used_trail (b ∷ used) x r st u;
      }

  -- or, closed, a ring
  pub list_ring : (used : List ArcRef) (q : List V) → ¬ (used ≡ []) → StitchTo arcs used (closed q) → UsesOnce used → IsRing q
  list_ring used q n st u = go q (list_line used (closed q) n st u)
    where
      go : (q : List V) → IsLine (closed q) → IsRing q
      go [] g = let k : 2 ≤ 0 = g.long in absurd (omega arith)
      go (x ∷ []) g = absurd ((g.once.0 x refl).0 refl)
      go (x ∷ (y ∷ [])) g = absurd ((g.once.0 y refl).1 (inr (inl (refl, refl))))
      go (x ∷ (y ∷ (z ∷ q))) g = record { long = omega arith; once = g.once }

  -- three arcs that begin at a vertex have three segments there
  pub three_segments : (v : V) → ThreeBegin arcs v → OnThree (SegmentOf a) v
  three_segments v (b, c, d, hb, hc, hd, bc, bd, cd) =
      let p = first b hb in
      let q = first c hc in
      let r = first d hd in
      (p.0, q.0, r.0, p.3, q.3, r.3, apart b c bc p.0 p.1 p.2 q.0 q.1 q.2, apart b d bd p.0 p.1 p.2 r.0 r.1 r.2, apart c d cd q.0 q.1 q.2 r.0 r.1 r.2)
    where
      first : (b : ArcRef) → BeginsAt arcs v b → (z : V) × (q : List V) × (along arcs b ≡ Some (v ∷ (z ∷ q))) × SegmentOf a v z
      first b h =
          let s = second cmp o same dec a sa arcs all b v h.0 h.1 in
          let e : along arcs b ≡ Some (v ∷ (s.0 ∷ s.1)) = h.1 ∙ ap (λ w. Some (v ∷ w)) s.2 in
          let k : IsChainOf cmp a (v ∷ (s.0 ∷ s.1)) = along_chain cmp o same dec a sa arcs all b (v ∷ (s.0 ∷ s.1)) e in
          (s.0, s.1, e, k.along v s.0 (inl (refl, refl)))

      apart : (b c : ArcRef) → ¬ (b ≡ c) → (y : V) (q : List V) → along arcs b ≡ Some (v ∷ (y ∷ q)) → (z : V) (s : List V) → along arcs c ≡ Some (v ∷ (z ∷ s)) → ¬ (y ≡ z)
      apart b c n y q e z s f k =
          n (one_start cmp o same dec a sa arcs all b c v y q s e (subst (λ w. along arcs c ≡ Some (v ∷ (w ∷ s))) (sym k) f))

  -- a segment of a list is one of the arcs'
  pub list_segment : (used : List ArcRef) (l : List V) → StitchTo arcs used l → (u v : V) → Beside u v l → SegmentOf a u v
  list_segment used [] st u v (inl b) = absurd b
  list_segment used [] st u v (inr b) = absurd b
  list_segment used (x ∷ r) st u v b =
      let t = taken_of arcs x used r (to_from arcs used x r st) in
      let p = stitched_beside u v x t.0 r t.2 b in
      let k = along_used arcs used t.0 t.1 p.0 p.1 in
      (segments_once cmp o same dec a sa arcs all).no_other u v k.2 (get_has arcs k.0 k.2 k.3) (same_beside u v p.0 k.2 k.4 p.2)

module _ {V : Type 0} (cmp : V → V → Ordering) (o : IsTotalOrder cmp) (same : IsAntisymmetric cmp) (dec : (a b : V) → Dec (a ≡ b))
    (arcs : List (List V)) (a g : Geometry V) (st : AreValidFor cmp arcs a g) where
  sa : IsSound a
  sa = sound cmp o same dec arcs a st.alone

  all : AreArcsOf cmp a arcs
  all = are_arcs cmp o same dec arcs a st.alone

  -- lines and rings whose lists stand are what their names say
  pub map_sound : IsSound g
  map_sound = record {
    lines = λ l h. let t = st.lines l h in list_line cmp o same dec a sa arcs all t.0 l t.1.some t.1.stitch t.1.once;
    rings = λ r h.
        let t = st.rings r h in
        let k = t.1.around in
        rotation_ring k.0 r (rotation_back r k.0 k.1) (list_ring cmp o same dec a sa arcs all t.0 k.0 t.1.some k.2 t.1.once);
  }

  segment : (x y : V) → SegmentOf a x y → SegmentOf g x y
  segment x y s =
      let t = (segments_once cmp o same dec a sa arcs all).in_an_arc x y s in
      elim (st.used t.0 t.1 t.2) [
        | inl (l, used, i, list, us) ↦ inl (l, i, (line_uses cmp o same dec a sa arcs all l used list.stitch t.0 t.1 x y t.2 t.3).1 us)
        | inr (r, used, i, list, us) ↦
            let k = list.around in
            let b : Beside x y (closed k.0) = (line_uses cmp o same dec a sa arcs all (closed k.0) used k.2 t.0 t.1 x y t.2 t.3).1 us in
            let q : IsRing k.0 = list_ring cmp o same dec a sa arcs all used k.0 list.some k.2 list.once in
            inr (r, i, elim b [ inl h ↦ inl ((round r k.0 q k.1 x y).1 h) | inr h ↦ inr ((round r k.0 q k.1 y x).1 h) ])
      ]

  segment_back : (x y : V) → SegmentOf g x y → SegmentOf a x y
  segment_back x y (inl (l, i, b)) = let t = st.lines l i in list_segment cmp o same dec a sa arcs all t.0 l t.1.stitch x y b
  segment_back x y (inr (r, i, b)) =
      let t = st.rings r i in
      let k = t.1.around in
      let q : IsRing k.0 = list_ring cmp o same dec a sa arcs all t.0 k.0 t.1.some k.2 t.1.once in
      list_segment cmp o same dec a sa arcs all t.0 (closed k.0) k.2 x y
      (elim b [ inl h ↦ inl ((round r k.0 q k.1 x y).0 h) | inr h ↦ inr ((round r k.0 q k.1 y x).0 h) ])

  line_turns : (g : Geometry V) → IsSound g → (l : List V) → IsLineOf g l → NoTurnBack l
  line_turns g s l h = Trail-turn l (s.lines l h).once

  ring_turns : (g : Geometry V) → IsSound g → (r : List V) → IsRingOf g r → NoTurnBack (around r)
  ring_turns g s r h = ring_turn r (s.rings r h)

  from_three : (v : V) → OnThree (SegmentOf a) v → JunctionOf g v
  from_three v t = (junction_law (IsLineOf g) (IsRingOf g) dec (line_turns g map_sound) (ring_turns g map_sound) v).1 (inr (three_map (SegmentOf a) (SegmentOf g) segment v t))

  junction : (v : V) → JunctionOf a v → JunctionOf g v
  junction v j = elim ((junction_law (IsLineOf a) (IsRingOf a) dec (line_turns a sa) (ring_turns a sa) v).0 j) [
    | inl (l, i, e) ↦ elim (st.ends l i v e) [ inl m ↦ inl m | inr t ↦ from_three v (three_segments cmp o same dec a sa arcs all v t) ]
    | inr t ↦ from_three v t
  ]

  junction_back : (v : V) → JunctionOf g v → JunctionOf a v
  junction_back v j = elim ((junction_law (IsLineOf g) (IsRingOf g) dec (line_turns g map_sound) (ring_turns g map_sound) v).0 j) [
    | inl (l, i, e) ↦
        let t = st.lines l i in
        let k = list_end arcs t.0 l t.1.some t.1.stitch v e in
        inl (k.1, t.1.no_free k.0 k.1 k.2 k.3, k.4)
    | inr t ↦ (junction_law (IsLineOf a) (IsRingOf a) dec (line_turns a sa) (ring_turns a sa) v).1
        (inr (three_map (SegmentOf g) (SegmentOf a) segment_back v t))
  ]

  -- the arcs as a map, and the map, have the same segments and the same junctions
  pub alike : Alike a g
  alike = record { segments = segment; segments_back = segment_back; junctions = junction; junctions_back = junction_back }

  -- the arcs are those of the map
  pub arcs_of_map : AreArcsOf cmp g arcs
  arcs_of_map = arcs_same cmp o same dec a g alike arcs all
