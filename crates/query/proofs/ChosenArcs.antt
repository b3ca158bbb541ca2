-- Chosen arcs are those that a map uses that is a part of another: what they are joined to are the maximal lines over their segments.
use Rattle.std.proofs.Common.{◌≡◌, ◌<◌, ℕ, zero, suc, Bool, true, false, List, [], ◌∷◌, length, get_or, map, replicate, ◌⊎◌, ◌↔◌, inl, inr, refl, sym, ap, ◌∙◌, subst, Some, slice_get, arith}
use Rattle.std.proofs.lemmas.List.{length-replicate, length-set}
use Rattle.std.proofs.lemmas.Option.{slice_get-get_or, slice_get_within}
use Rattle.grid.specs.declared.pos.Pos.{Pos}
use Rattle.lines.specs.Turned.{position_cmp}
use Rattle.lines.specs.Positions.{position_total, position_same}
use Rattle.lines.proofs.Positions.{position_dec}
use Rattle.chains.specs.Along.{OnArcs, HasArcs, SidesFrom, SidesOf}
use Rattle.arcs.specs.Arcs.{Arcs}
use Rattle.chains.specs.Joined.{AmongSegments, IsChainOver, SegmentsOf, StopAt}
use Rattle.chains.specs.Seen.{geometry_of}
use Rattle.chains.specs.Segments.{ends_of}
use Rattle.arcs.specs.Table.{IsTableOf}
use Rattle.chains.specs.declared.segment.Segment.{Segment}
use Rattle.chains.proofs.Among.{among_has, has_among}
use Rattle.chains.proofs.ArcSegments.{segments_on}
use Rattle.chains.proofs.Siding.{on_arc, sides_beside}
use Rattle.chains.proofs.TablesAsMap.{union_sound}
use Rattle.split_heal.specs.Healing.{IsLeftBy, IsHealedOf}
use Rattle.split_heal.specs.HealedParts.{HealedParts}
use Rattle.theory.proofs.ArcNumbers.{taken_of, uses_along}
use Rattle.theory.proofs.ArcsAsMap.{arcs_same, three_map}
use Rattle.theory.proofs.Chains.{IsChain-same}
use Rattle.theory.proofs.HealingKept.{kept_laws, kept_stays, line_list, list_ends}
use Rattle.theory.proofs.JunctionTest.{junction_means, no_junction_means}
use Rattle.theory.proofs.Junctions.{junction_law}
use Rattle.theory.proofs.Lists.{Beside-left, Has-append, Has-append_left, Has-append_right}
use Rattle.theory.proofs.ListsOfLists.{get_has}
use Rattle.theory.proofs.RefinementLaws.{chain_side, part_junction, part_segment}
use Rattle.theory.proofs.SegmentsOnce.{segments_once}
use Rattle.theory.proofs.ValidMaps.{ends_list}
use Rattle.theory.proofs.VisitedAgain.{Trail-turn, ring_turn}
use Rattle.theory.specs.ArcNumbers.{ArcRef, StitchTo, Uses}
use Rattle.theory.specs.Chain.{IsChain}
use Rattle.theory.specs.Geometry.{AtMost, Geometry, IsLineOf, IsRingOf, IsSound, JunctionOf, SegmentOf}
use Rattle.theory.specs.Healing.{IsKept}
use Rattle.theory.specs.LinesAndRings.{closed}
use Rattle.theory.specs.Lists.{Beside, EndOf, Has}
use Rattle.theory.specs.Network.{IsNetwork, Joins, Network}
use Rattle.theory.specs.Refinement.{Alike, IsUnionOf, both_of}
use Rattle.theory.specs.Segments.{OnThree}
use Rattle.theory.specs.TopologyFunction.{is_junction, line_refs}
use Rattle.topo.specs.OfMap.{IsOfSomeMap}
use Rattle.topo.specs.Parts.{TopologyParts}
use Rattle.topo.proofs.Sound.{are_sound}
use Rattle.query.specs.Joining.{with_mark, with_marks}
use Rattle.query.specs.Mesh.{AreLinesOver}
use Rattle.query.specs.Stops.{AreHalts}
use Rattle.query.proofs.Halting.{halts_stops}
use Rattle.query.proofs.NetworkMaps.{IsOfNetwork, network_map}
use Rattle.query.proofs.Sides.{two_only}
use Rattle.query.proofs.Vertices.{all_beside, beside_on, on_segment, two}

-- the segments and the stops as a network
abbrev network : List Segment → List Pos → Network Pos
network segs stops = record { segments = map ends_of segs; stops = stops }

among_joins : (u v : Pos) (segs : List Segment) (stops : List Pos) → AmongSegments u v segs → Joins (network segs stops) u v
among_joins u v [] stops h = absurd h
among_joins u v (s ∷ ss) stops (inl (inl k)) = inl (inl (λ i. (k.0 i, k.1 i)))
among_joins u v (s ∷ ss) stops (inl (inr k)) = inr (inl (λ i. (k.1 i, k.0 i)))
among_joins u v (s ∷ ss) stops (inr h) = elim (among_joins u v ss stops h) [ inl k ↦ inl (inr k) | inr k ↦ inr (inr k) ]

joins_among : (u v : Pos) (segs : List Segment) (stops : List Pos) → Joins (network segs stops) u v → AmongSegments u v segs
joins_among u v [] stops h = elim h [ inl k ↦ k | inr k ↦ k ]
joins_among u v (s ∷ ss) stops (inl (inl e)) = inl (inl (ap (λ w. w.0) e, ap (λ w. w.1) e))
joins_among u v (s ∷ ss) stops (inl (inr h)) = inr (joins_among u v ss stops (inl h))
joins_among u v (s ∷ ss) stops (inr (inl e)) = inl (inr (ap (λ w. w.1) e, ap (λ w. w.0) e))
joins_among u v (s ∷ ss) stops (inr (inr h)) = inr (joins_among u v ss stops (inr h))

-- a mark more
mark_at : (ms : List Bool) (j k : ℕ) → (slice_get (with_mark ms j) k ≡ Some true) ↔ (((k ≡ j) × (k < length ms)) ⊎ (slice_get ms k ≡ Some true))
mark_at [] j k = ((λ e. absurd cc), (λ h. elim h [ inl i ↦ absurd (omega (arith, i.1)) | inr e ↦ absurd cc ]))
mark_at (b ∷ ms) zero zero = ((λ e. inl (refl, omega arith)), (λ h. refl))
mark_at (b ∷ ms) zero (suc k) = ((λ e. inr e), (λ h. elim h [ inl i ↦ absurd (omega (arith, i.0)) | inr e ↦ e ]))
mark_at (b ∷ ms) (suc j) zero = ((λ e. inr e), (λ h. elim h [ inl i ↦ absurd (omega (arith, i.0)) | inr e ↦ e ]))
mark_at (b ∷ ms) (suc j) (suc k) =
    let r = mark_at ms j k in (
      (λ e. elim (r.0 e) [ inl i ↦ inl (omega (arith, i.0), omega (arith, i.1)) | inr f ↦ inr f ]),
      (λ h. r.1 (elim h [ inl i ↦ inl (omega (arith, i.0), omega (arith, i.1)) | inr f ↦ inr f ])),
    )

-- what is marked was marked, or its number is one of these
marks_at : (ms : List Bool) (ks : List ℕ) (k : ℕ) → (slice_get (with_marks ms ks) k ≡ Some true) ↔ ((Has k ks × (k < length ms)) ⊎ (slice_get ms k ≡ Some true))
marks_at ms [] k = ((λ e. inr e), (λ h. elim h [ inl i ↦ absurd i.0 | inr e ↦ e ]))
marks_at ms (j ∷ ks) k =
    let r = marks_at (with_mark ms j) ks k in
    let one = mark_at ms j k in
    let n = length-set ms j true in (
      (λ e. elim (r.0 e) [
        | inl i ↦ inl (inr i.0, omega (arith, n, i.1))
        | inr f ↦ elim (one.0 f) [ inl i ↦ inl (inl i.0, i.1) | inr i ↦ inr i ]
      ]),
      (λ h. r.1 (elim h [
        | inl i ↦ elim i.0 [ inl e ↦ inr (one.1 (inl (e, i.1))) | inr q ↦ inl (q, omega (arith, n, i.1)) ]
        | inr i ↦ inr (one.1 (inr i))
      ])),
    )

none_marked : (n k : ℕ) → ¬ (slice_get (replicate n false) k ≡ Some true)
none_marked zero k e = absurd cc
none_marked (suc n) zero e = let f : Some false ≡ Some true = e in absurd cc
none_marked (suc n) (suc k) e = none_marked n k e

-- the arcs are marked that are chosen
marks_tell : (arcs : List (List Pos)) (ks : List ℕ) (marks : List Bool) (n : ℕ) → n ≡ length arcs → marks ≡ with_marks (replicate n false) ks →
    (k : ℕ) → (slice_get marks k ≡ Some true) ↔ (Has k ks × ((c : List Pos) × (slice_get arcs k ≡ Some c)))
marks_tell arcs ks marks n e made k =
    let r = marks_at (replicate n false) ks k in
    let m : length (replicate n false) ≡ n = length-replicate n false in (
      (λ h. elim (r.0 (subst (λ w. slice_get w k ≡ Some true) made h)) [
        | inl i ↦ (i.0, (get_or arcs k [], slice_get-get_or arcs k [] (omega (arith, m, e, i.1))))
        | inr f ↦ absurd (none_marked n k f)
      ]),
      (λ h.
          let l = slice_get_within arcs k h.1.0 h.1.1 in
          subst (λ w. slice_get w k ≡ Some true) (sym made) (r.1 (inl (h.0, omega (arith, m, e, l))))),
    )

module _ (m : Geometry Pos) (sound : IsSound m) (t : Arcs) (table : IsTableOf m t) (ks : List ℕ) (stops : List Pos) (halts : AreHalts t.arcs ks stops)
    (segs : List Segment) (has : HasArcs t.arcs ks segs) where
  abbrev n : Network Pos
  n = network segs stops

  joins_on : (u v : Pos) → Joins n u v → OnArcs t.arcs ks u v
  joins_on u v h = (has u v).0 (joins_among u v segs stops h)

  on_joins : (u v : Pos) → OnArcs t.arcs ks u v → Joins n u v
  on_joins u v h = among_joins u v segs stops ((has u v).1 h)

  is_network : IsNetwork n
  is_network = record {
    apart = λ u h. let (k, c, there, e, side) = on_arc t.arcs ks u u (joins_on u u h) in differ c u side;
    two = λ v w free h.
        let r = halts.meets v w (λ s. free (among_has stops v s)) (joins_on v w h) in
        (r.0, r.1, r.2, on_joins v r.0 r.3, on_joins v r.1 r.4, λ c s. r.5 c (joins_on v c s));
  }
    where
      from : (x : Pos) (r : List Pos) (u : Pos) → ¬ SidesFrom x r u u
      from x [] u h = h
      from x (y ∷ r) u (inl (d, inl k)) = d (sym k.0 ∙ k.1)
      from x (y ∷ r) u (inl (d, inr k)) = d (sym k.1 ∙ k.0)
      from x (y ∷ r) u (inr h) = from y r u h

      differ : (c : List Pos) (u : Pos) → ¬ SidesOf c u u
      differ [] u h = h
      differ (x ∷ r) u h = from x r u h

  -- a stop lies on a segment
  stop_segment : (v : Pos) → StopAt stops v → (w : Pos) × OnArcs t.arcs ks v w
  stop_segment v s = elim ((halts.exact v).0 s) [ inl k ↦ (k.0, k.1) | inr k ↦ (k.0, k.3) ]

  of_network : (g : Geometry Pos) × IsOfNetwork position_cmp position_total position_same position_dec n is_network g
  of_network =
      network_map position_cmp position_total position_same position_dec n is_network
      (λ v h. let s = stop_segment v (has_among stops v h) in (s.0, on_joins v s.0 s.1))

  g : Geometry Pos
  g = of_network.0

  of : IsOfNetwork position_cmp position_total position_same position_dec n is_network g
  unfolding g
  of = of_network.1

  segment_on : (u v : Pos) → SegmentOf g u v → OnArcs t.arcs ks u v
  segment_on u v s = joins_on u v ((of.network.segments u v).1 s)

  on_segment_of : (u v : Pos) → OnArcs t.arcs ks u v → SegmentOf g u v
  on_segment_of u v h = (of.network.segments u v).0 (on_joins u v h)

  -- the map that has the lines and the rings of the whole and of the chosen arcs
  abbrev both : Geometry Pos
  both = both_of m g

  union : IsUnionOf m g both
  union = record {
    left = record { lines = λ l h. Has-append_left l m.lines g.lines h; rings = λ r h. Has-append_left r m.rings g.rings h };
    right = record { lines = λ l h. Has-append_right l m.lines g.lines h; rings = λ r h. Has-append_right r m.rings g.rings h };
    lines = λ l h. Has-append l m.lines g.lines h;
    rings = λ r h. Has-append r m.rings g.rings h;
  }

  su : IsSound both
  su = union_sound m g both sound of.sound union

  -- where the chosen arcs have a stop, the whole map has a junction
  stop_junction : (v : Pos) → StopAt stops v → JunctionOf m v
  stop_junction v s = go (is_junction position_cmp m v) refl
    where
      go : (b : Bool) → is_junction position_cmp m v ≡ b → JunctionOf m v
      go true e = junction_means position_cmp position_total position_same m v e
      go false e =
          let free : ¬ JunctionOf m v = no_junction_means position_cmp position_total position_same m v e in
          let (w, on) = stop_segment v s in
          let (k, c, there, at, side) = on_arc t.arcs ks v w on in
          let beside : Beside v w c = sides_beside c v w side in
          let r = two m sound t table v w free (on_segment m sound t table ks v w on) in
          let all : (p : Pos) → SegmentOf m v p → OnArcs t.arcs ks v p =
          (λ p h. beside_on m sound t table ks k c there at v p (all_beside m sound t table k c at v p (Beside-left v w c beside) free h)) in
          absurd (two_only (OnArcs t.arcs ks) v (r.0, r.1, r.2, all r.0 r.3, all r.1 r.4, λ p h. r.5 p (on_segment m sound t table ks v p h)) ((halts.exact v).0 s))

  law : (f : Geometry Pos) → IsSound f → (v : Pos) → JunctionOf f v ↔ (((l : List Pos) × IsLineOf f l × EndOf v l) ⊎ OnThree (SegmentOf f) v)
  law f s v = junction_law (IsLineOf f) (IsRingOf f) position_dec (λ l h. Trail-turn l (s.lines l h).once) (λ r h. ring_turn r (s.rings r h)) v

  segment_back : (x y : Pos) → SegmentOf both x y → SegmentOf m x y
  segment_back x y (inl (l, i, b)) = elim (union.lines l i) [
    | inl k ↦ inl (l, k, b)
    | inr k ↦ on_segment m sound t table ks x y (segment_on x y (inl (l, k, b)))
  ]
  segment_back x y (inr (r, i, b)) = elim (union.rings r i) [
    | inl k ↦ inr (r, k, b)
    | inr k ↦ on_segment m sound t table ks x y (segment_on x y (inr (r, k, b)))
  ]

  junction_back : (v : Pos) → JunctionOf both v → JunctionOf m v
  junction_back v j =
      elim ((law both su v).0 j) [
        | inl (l, i, e) ↦ elim (union.lines l i) [
          | inl k ↦ (law m sound v).1 (inl (l, k, e))
          | inr k ↦ stop_junction v (has_among stops v (of.to_stop v l k e))
        ]
        | inr h ↦ (law m sound v).1 (inr (three_map (SegmentOf both) (SegmentOf m) segment_back v h))
      ]

  alike : Alike m both
  alike = record {
    segments = part_segment position_cmp position_total position_same position_dec m both union.left;
    segments_back = segment_back;
    junctions = part_junction position_cmp position_total position_same position_dec m both union.left;
    junctions_back = junction_back;
  }

  -- so the table is that of both
  table_u : IsTableOf both t
  table_u =
      let arcs = arcs_same position_cmp position_total position_same position_dec m both alike t.arcs table.arcs in
      record {
        arcs = arcs;
        free = λ i c e. record {
          yes = λ q v h j. (table.free i c e).yes q v h (junction_back v j);
          no = λ q f. (table.free i c e).no q (λ v h j. f v h (alike.junctions v j));
        };
        once = segments_once position_cmp position_total position_same position_dec both su t.arcs arcs;
      }

  abbrev Kept : ℕ → Type 0
  Kept = IsKept position_cmp g both t.arcs

  -- an arc has a segment
  side_of : (c : List Pos) (k : ℕ) → slice_get t.arcs k ≡ Some c → (a : Pos) × (b : Pos) × Beside a b c
  side_of c k e =
      chain_side position_cmp position_total position_same position_dec both su t.arcs table_u.arcs c (table_u.arcs.arcs_only c (get_has t.arcs k c e)).chain

  chosen_kept : (k : ℕ) (c : List Pos) → Has k ks → slice_get t.arcs k ≡ Some c → Kept k
  chosen_kept k c h e =
      let (a, b, beside) = side_of c k e in
      (kept_laws position_cmp position_total position_same position_dec both su t.arcs table_u.arcs g union.right).whole k c a b e beside
      (on_segment_of a b (beside_on m sound t table ks k c h e a b beside))

  used_there : (k : ℕ) (used : List ArcRef) (l : List Pos) → StitchTo t.arcs used l → Uses k used → (c : List Pos) × (slice_get t.arcs k ≡ Some c)
  used_there k [] l st h = absurd h
  used_there k (b ∷ used) [] st h = absurd st
  used_there k (b ∷ used) (x ∷ r) st h =
      let p = taken_of t.arcs x (b ∷ used) r st in
      let w = uses_along t.arcs (b ∷ used) p.0 p.1 k h in
      (w.2, w.3)

  kept_there : (k : ℕ) → Kept k → (c : List Pos) × (slice_get t.arcs k ≡ Some c)
  kept_there k (inl (l, used, i, st, us)) = used_there k used l st us
  kept_there k (inr (r, used, i, st, us)) = used_there k used (closed (st.0 ∷ st.1)) st.3 us

  kept_chosen : (k : ℕ) → Kept k → Has k ks
  kept_chosen k h =
      let (c, e) = kept_there k h in
      let (a, b, beside) = side_of c k e in
      let on = segment_on a b (kept_stays position_cmp position_total position_same position_dec both su t.arcs table_u.arcs g union.right k c h e a b beside) in
      let (j, d, there, f, side) = on_arc t.arcs ks a b on in
      subst (λ w. Has w ks) (sym (table.once.one_arc a b k j c d e f beside (sides_beside d a b side))) there

  -- the marks and the stops are those that tell what is left
  module _ (marks : List Bool) (meant : (k : ℕ) → (slice_get marks k ≡ Some true) ↔ (Has k ks × ((c : List Pos) × (slice_get t.arcs k ≡ Some c)))) where
    left_by : IsLeftBy g both t marks stops
    left_by = record {
      sound = su;
      table = table_u;
      part = union.right;
      kept = λ k. (
        (λ e. let h = (meant k).0 e in chosen_kept k h.1.0 h.0 h.1.1),
        (λ h. (meant k).1 (kept_chosen k h, kept_there k h)),
      );
      ends = λ v. (
        (λ h.
            let (l, i, e) = of.from_stop v h in
            let st = line_list position_cmp position_total position_same position_dec both su t.arcs table_u.arcs g union.right l (union.right.lines l i) in
            (l, line_refs position_cmp both l, i, st, list_ends t.arcs (line_refs position_cmp both l) l st v e)),
        (λ (l, used, i, st, e). of.to_stop v l i (ends_list t.arcs used l st v e)),
      );
    }

    chain_over : (c : List Pos) → IsChain (SegmentOf g) (JunctionOf g) (AtMost position_cmp) c → IsChainOver segs stops c
    chain_over = IsChain-same (SegmentOf g) (SegmentsOf segs) (JunctionOf g) (StopAt stops) (AtMost position_cmp)
        (λ a b s. joins_among a b segs stops ((of.network.segments a b).1 s)) (λ v j. has_among stops v ((of.network.stops v).1 j)) (λ v s. (of.network.stops v).0 (among_has stops v s))

    over_chain : (c : List Pos) → IsChainOver segs stops c → IsChain (SegmentOf g) (JunctionOf g) (AtMost position_cmp) c
    over_chain = IsChain-same (SegmentsOf segs) (SegmentOf g) (StopAt stops) (JunctionOf g) (AtMost position_cmp)
        (λ a b s. (of.network.segments a b).0 (among_joins a b segs stops s)) (λ v s. (of.network.stops v).0 (among_has stops v s)) (λ v j. has_among stops v ((of.network.stops v).1 j))

    lines_are : (lines : Arcs) → IsTableOf g lines → AreLinesOver segs lines
    lines_are lines k = record {
      stops = stops;
      exact = halts_stops t.arcs ks segs stops has halts;
      maximal = record {
        ascends = k.arcs.sorted;
        only = λ c h. let a = k.arcs.arcs_only c h in (chain_over c a.chain, a.forward);
        all = λ c h l. k.arcs.all_arcs c (record { chain = over_chain c h; forward = l });
        free = λ i c e. record {
          yes = λ q v h s. (k.free i c e).yes q v h ((of.network.stops v).0 (among_has stops v s));
          no = λ q f. (k.free i c e).no q (λ v h j. f v h (has_among stops v ((of.network.stops v).1 j)));
        };
      };
    }

    -- what they are joined to are the lines over their segments
    pub joined_lines : (r : HealedParts) → ((f h : Geometry Pos) → IsLeftBy f h t marks stops → IsHealedOf f h t r) → AreLinesOver segs r.arcs
    joined_lines r joins = lines_are r.arcs (joins g both left_by).table

-- in the form of the code
pub lines_over : (t : TopologyParts) (some : IsOfSomeMap t) (arcs : Arcs) → arcs ≡ t.arcs → (ks : List ℕ) (stops ending : List Pos) →
    ((g : Geometry Pos) → IsSound g → IsTableOf g arcs → AreHalts arcs.arcs ks stops) → ending ≡ stops →
    (n : ℕ) (made marks : List Bool) → n ≡ length arcs.arcs → made ≡ with_marks (replicate n false) ks → marks ≡ made →
    (r : HealedParts) → ((f h : Geometry Pos) → IsLeftBy f h arcs marks ending → IsHealedOf f h arcs r) → (lines : Arcs) → lines ≡ r.arcs →
    (segs : List Segment) × HasArcs t.arcs.arcs ks segs × AreLinesOver segs lines
lines_over t some arcs at ks stops ending halting e n made marks count marked f r joins lines is =
    let table : IsTableOf (geometry_of some.0) arcs = subst (IsTableOf (geometry_of some.0)) (sym at) some.1.table in
    let halts : AreHalts arcs.arcs ks ending = subst (AreHalts arcs.arcs ks) (sym e) (halting (geometry_of some.0) (are_sound some.0) table) in
    let all = segments_on arcs.arcs ks in (
      all.0,
      subst (λ w. HasArcs w.arcs ks all.0) at all.1,
      subst (AreLinesOver all.0) (sym is)
          (joined_lines (geometry_of some.0) (are_sound some.0) arcs table ks ending halts all.0 all.1 marks (marks_tell arcs.arcs ks marks n count (f ∙ marked)) r joins),
    )
