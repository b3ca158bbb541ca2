-- The arcs of two maps, seen as a map of their own, have the segments and the junctions of the two maps together.
use Rattle.std.proofs.Common.{◌≡◌, ◌≤◌, List, [], ◌∷◌, ◌++◌, length, ◌⊎◌, inl, inr, refl, sym, ap, ◌∙◌, subst, arith}
use Rattle.std.proofs.lemmas.List.{length-append}
use Rattle.std.specs.Cmp.{IsTotalOrder}
use Rattle.std.specs.FinMap.{IsAntisymmetric}
use Rattle.std.specs.declared.cmp.Ordering.{Ordering}
use Rattle.theory.proofs.ArcNumbers.{taken_line, taken_ring}
use Rattle.theory.proofs.Chains.{IsChain-same}
use Rattle.theory.proofs.ClosedLists.{around_steps, closed_steps}
use Rattle.theory.proofs.Junctions.{junction_law}
use Rattle.theory.proofs.JunctionsGrow.{junctions_of_arcs, open_end}
use Rattle.theory.proofs.Lists.{front_last, last-snoc}
use Rattle.theory.proofs.ListsOfLists.{get_has}
use Rattle.theory.proofs.RefinementLaws.{chain_trail, part_junction, part_segment}
use Rattle.theory.proofs.SegmentsOnce.{segments_once}
use Rattle.theory.proofs.VisitedAgain.{Trail-turn, ring_turn}
use Rattle.theory.specs.ArcNumbers.{ArcRef, AreTaken}
use Rattle.theory.specs.Arcs.{AreArcsOf, IsArcOf}
use Rattle.theory.specs.Chain.{Free}
use Rattle.theory.specs.Geometry.{AtMost, Geometry, IsChainOf, IsLineOf, IsRingOf, IsSound, JunctionOf, SegmentOf}
use Rattle.theory.specs.Junction.{Junction, Visit, Visits, end, pair}
use Rattle.theory.specs.LinesAndRings.{IsLine, IsRing, Trail, around, closed}
use Rattle.theory.specs.Lists.{Beside, Has, NoTurnBack, front_of}
use Rattle.theory.specs.Refinement.{Alike, AreArcsAsMap, ArePiecesOfArc, Either, IsUnionOf, LoopArc, OpenArc}
use Rattle.theory.specs.Seam.{IsLeastOf, IsTurned}
use Rattle.theory.specs.Segments.{OnThree, Segment}
use Rattle.theory.specs.Stitching.{ArePiecesOf, AreRingPiecesOf}

module _ {V : Type 0} (L R L' R' : List V → Type 0) (f : (l : List V) → L l → L' l) (h : (r : List V) → R r → R' r) where
  visit_map : (v : V) (p : Visit V) → Visits L R v p → Visits L' R' v p
  visit_map v end k = (k.0, f k.0 k.1, k.2)
  visit_map v (pair a b) (inl k) = inl (k.0, f k.0 k.1, k.2)
  visit_map v (pair a b) (inr k) = inr (k.0, h k.0 k.1, k.2)

  pub junction_map : (v : V) → Junction L R v → Junction L' R' v
  junction_map v (inl e) = inl (visit_map v end e)
  junction_map v (inr (p, q, vp, vq, n)) = inr (p, q, visit_map v p vp, visit_map v q vq, n)

pub three_map : {V : Type 0} (S T : V → V → Type 0) → ((a b : V) → S a b → T a b) → (v : V) → OnThree S v → OnThree T v
three_map S T f v (a, b, c, x, y, z, p, q, r) = (a, b, c, f v a x, f v b y, f v c z, p, q, r)

module _ {V : Type 0} (cmp : V → V → Ordering) (o : IsTotalOrder cmp) (same : IsAntisymmetric cmp) (dec : (a b : V) → Dec (a ≡ b)) where
  -- of one map: what its arcs are as lines and rings
  module _ (g : Geometry V) (sg : IsSound g) (arcs : List (List V)) (all : AreArcsOf cmp g arcs) where
    trail_of : (c : List V) → Has c arcs → Trail c
    trail_of c h = chain_trail cmp o same dec g sg g arcs c (all.arcs_only c h).chain

    open_line : (l : List V) → OpenArc g arcs l → IsLine l
    open_line l h = record { long = long l (all.arcs_only l h.0).chain; once = trail_of l h.0 }
      where
        long : (l : List V) → IsChainOf cmp g l → 2 ≤ length l
        long [] k = absurd k
        long (x ∷ r) k = let n : 1 ≤ length r = k.long in omega (arith, n)

    loop_size : (r : List V) → IsChainOf cmp g (closed r) → 3 ≤ length r
    loop_size [] k = absurd k
    loop_size (p ∷ q) k =
        let n : 3 ≤ length (q ++ (p ∷ [])) = k.closed_long (sym (last-snoc p p q)) in
        omega (arith, n, length-append q (p ∷ []))

    loop_ring : (r : List V) → LoopArc g arcs r → IsRing r
    loop_ring r h = record { long = loop_size r (all.arcs_only (closed r) h.0).chain; once = trail_of (closed r) h.0 }

    open_segment : (l : List V) → OpenArc g arcs l → (x y : V) → Beside x y l → SegmentOf g x y
    open_segment l h x y b = (segments_once cmp o same dec g sg arcs all).no_other x y l h.0 b

    loop_segment : (r : List V) → LoopArc g arcs r → (x y : V) → Beside x y (around r) → SegmentOf g x y
    loop_segment r h x y b =
        (segments_once cmp o same dec g sg arcs all).no_other x y (closed r) h.0
        (elim b [ inl k ↦ inl (around_steps x y r k) | inr k ↦ inr (around_steps y x r k) ])

    -- an arc is open or a loop
    pub kind : (c : List V) → Has c arcs → OpenArc g arcs c ⊎ ((r : List V) × (c ≡ closed r) × LoopArc g arcs r)
    kind c h = go c h (all.arcs_only c h).chain
      where
        go : (c : List V) → Has c arcs → IsChainOf cmp g c → OpenArc g arcs c ⊎ ((r : List V) × (c ≡ closed r) × LoopArc g arcs r)
        go [] h k = absurd k
        go (x ∷ []) h k = let n : 1 ≤ 0 = k.long in absurd (omega arith)
        go (x ∷ (y ∷ r)) h k =
            elim k.ends [
              | inl j ↦ inl (h, λ f. f x (inl refl) j.0)
              | inr f ↦
                  let e : x ∷ (y ∷ r) ≡ closed (front_of x (y ∷ r)) =
                  front_last x (y ∷ r) ∙ ap (λ w. front_of x (y ∷ r) ++ (w ∷ [])) (sym f.0) in
                  inr (front_of x (y ∷ r), e, (subst (λ w. Has w arcs) e h, subst (λ w. Free (JunctionOf g) w) e f.1))
            ]

    -- a segment is one of an open arc or of a loop
    segment_kind : (x y : V) → SegmentOf g x y →
        ((l : List V) × OpenArc g arcs l × Beside x y l) ⊎ ((r : List V) × LoopArc g arcs r × Beside x y (around r))
    segment_kind x y s =
        let t = (segments_once cmp o same dec g sg arcs all).in_an_arc x y s in
        elim (kind t.1 (get_has arcs t.0 t.1 t.2)) [
          | inl k ↦ inl (t.1, k, t.3)
          | inr k ↦ inr (k.0, k.2, round k.0 (loop_size k.0 (all.arcs_only (closed k.0) k.2.0).chain) (subst (λ w. Beside x y w) k.1 t.3))
        ]
      where
        round : (r : List V) → 3 ≤ length r → Beside x y (closed r) → Beside x y (around r)
        round [] n b = b
        round (p ∷ q) n (inl b) = inl (closed_steps x y p q (omega (arith, n)) b)
        round (p ∷ q) n (inr b) = inr (closed_steps y x p q (omega (arith, n)) b)

    covered : (x y : V) → SegmentOf g x y → (c : List V) × Has c arcs × Beside x y c
    covered x y s = let t = (segments_once cmp o same dec g sg arcs all).in_an_arc x y s in (t.1, get_has arcs t.0 t.1 t.2, t.3)

  module _ (m n u : Geometry V) (sm : IsSound m) (sn : IsSound n) (su : IsSound u) (union : IsUnionOf m n u)
      (ms ns : List (List V)) (am : AreArcsOf cmp m ms) (an : AreArcsOf cmp n ns)
      (a : Geometry V) (as_map : AreArcsAsMap m n ms ns a) where
    pub arcs_sound : IsSound a
    arcs_sound = record {
      lines = λ l h. elim (as_map.lines l h) [ inl k ↦ open_line m sm ms am l k | inr k ↦ open_line n sn ns an l k ];
      rings = λ r h. elim (as_map.rings r h) [ inl k ↦ loop_ring m sm ms am r k | inr k ↦ loop_ring n sn ns an r k ];
    }

    segs : (x y : V) → SegmentOf a x y → SegmentOf u x y
    segs x y (inl (l, i, b)) = elim (as_map.lines l i) [
      | inl k ↦ part_segment cmp o same dec m u union.left x y (open_segment m sm ms am l k x y b)
      | inr k ↦ part_segment cmp o same dec n u union.right x y (open_segment n sn ns an l k x y b)
    ]
    segs x y (inr (r, i, b)) = elim (as_map.rings r i) [
      | inl k ↦ part_segment cmp o same dec m u union.left x y (loop_segment m sm ms am r k x y b)
      | inr k ↦ part_segment cmp o same dec n u union.right x y (loop_segment n sn ns an r k x y b)
    ]

    from_left : (x y : V) → SegmentOf m x y → SegmentOf a x y
    from_left x y s = elim (segment_kind m sm ms am x y s) [
      | inl t ↦ inl (t.0, as_map.open_left t.0 t.1, t.2)
      | inr t ↦ inr (t.0, as_map.loop_left t.0 t.1, t.2)
    ]

    from_right : (x y : V) → SegmentOf n x y → SegmentOf a x y
    from_right x y s = elim (segment_kind n sn ns an x y s) [
      | inl t ↦ inl (t.0, as_map.open_right t.0 t.1, t.2)
      | inr t ↦ inr (t.0, as_map.loop_right t.0 t.1, t.2)
    ]

    segs_back : (x y : V) → SegmentOf u x y → SegmentOf a x y
    segs_back x y (inl (l, i, b)) = elim (union.lines l i) [ inl k ↦ from_left x y (inl (l, k, b)) | inr k ↦ from_right x y (inl (l, k, b)) ]
    segs_back x y (inr (r, i, b)) = elim (union.rings r i) [ inl k ↦ from_left x y (inr (r, k, b)) | inr k ↦ from_right x y (inr (r, k, b)) ]

    line_turns : (g : Geometry V) → IsSound g → (l : List V) → IsLineOf g l → NoTurnBack l
    line_turns g s l h = Trail-turn l (s.lines l h).once

    ring_turns : (g : Geometry V) → IsSound g → (r : List V) → IsRingOf g r → NoTurnBack (around r)
    ring_turns g s r h = ring_turn r (s.rings r h)

    jun : (v : V) → JunctionOf a v → JunctionOf u v
    jun v j =
        elim ((junction_law (IsLineOf a) (IsRingOf a) dec (line_turns a arcs_sound) (ring_turns a arcs_sound) v).0 j) [
          | inl (l, i, e) ↦ elim (as_map.lines l i) [
            | inl k ↦ part_junction cmp o same dec m u union.left v
                (open_end (SegmentOf m) (JunctionOf m) (AtMost cmp) l (am.arcs_only l k.0).chain k.1 v e)
            | inr k ↦ part_junction cmp o same dec n u union.right v
                (open_end (SegmentOf n) (JunctionOf n) (AtMost cmp) l (an.arcs_only l k.0).chain k.1 v e)
          ]
          | inr t ↦ (junction_law (IsLineOf u) (IsRingOf u) dec (line_turns u su) (ring_turns u su) v).1
              (inr (three_map (SegmentOf a) (SegmentOf u) segs v t))
        ]

    jun_back : (v : V) → JunctionOf u v → JunctionOf a v
    jun_back v j =
        elim ((junctions_of_arcs (IsLineOf m) (IsRingOf m) (IsLineOf n) (IsRingOf n) (AtMost cmp) dec
        (line_turns m sm) (ring_turns m sm) (line_turns n sn) (ring_turns n sn)
        (λ l h. (sm.lines l h).long) (λ l h. (sn.lines l h).long)
        (λ c. Has c ms) (λ c. Has c ns) (λ c h. (am.arcs_only c h).chain) (λ c h. (an.arcs_only c h).chain)
        (covered m sm ms am) (covered n sn ns an) v).0
        (junction_map (IsLineOf u) (IsRingOf u) (Either (IsLineOf m) (IsLineOf n)) (Either (IsRingOf m) (IsRingOf n)) union.lines union.rings v j)) [
          | inl (c, i, f, e) ↦ inl (c, as_map.open_left c (i, f), e)
          | inr (inl (c, i, f, e)) ↦ inl (c, as_map.open_right c (i, f), e)
          | inr (inr t) ↦ (junction_law (IsLineOf a) (IsRingOf a) dec (line_turns a arcs_sound) (ring_turns a arcs_sound) v).1
              (inr (three_map (Segment (Either (IsLineOf m) (IsLineOf n)) (Either (IsRingOf m) (IsRingOf n))) (SegmentOf a) both v t))
        ]
      where
        both : (x y : V) → Segment (Either (IsLineOf m) (IsLineOf n)) (Either (IsRingOf m) (IsRingOf n)) x y → SegmentOf a x y
        both x y (inl (l, inl k, b)) = from_left x y (inl (l, k, b))
        both x y (inl (l, inr k, b)) = from_right x y (inl (l, k, b))
        both x y (inr (r, inl k, b)) = from_left x y (inr (r, k, b))
        both x y (inr (r, inr k, b)) = from_right x y (inr (r, k, b))

    -- the arcs as a map have the segments and the junctions of the union
    pub arcs_alike : Alike a u
    arcs_alike = record { segments = segs; segments_back = segs_back; junctions = jun; junctions_back = jun_back }

  -- maps that are alike have the same chains and the same arcs
  module _ (a u : Geometry V) (alike : Alike a u) where
    pub chain_alike : (c : List V) → IsChainOf cmp a c → IsChainOf cmp u c
    chain_alike = IsChain-same (SegmentOf a) (SegmentOf u) (JunctionOf a) (JunctionOf u) (AtMost cmp) alike.segments alike.junctions alike.junctions_back

    pub arc_alike : (c : List V) → IsArcOf cmp a c → IsArcOf cmp u c
    arc_alike c k = record { chain = chain_alike c k.chain; forward = k.forward }

    pub least_alike : (l : List V) (v : V) → IsLeastOf cmp (JunctionOf a) l v → IsLeastOf cmp (JunctionOf u) l v
    least_alike l v h = record { there = h.there; has_it = alike.junctions v h.has_it; least = λ w k j. h.least w k (alike.junctions_back w j) }

    pub turned_alike : (r : List V) (x : V) (l : List V) → IsTurned cmp (JunctionOf a) r x l → IsTurned cmp (JunctionOf u) r x l
    turned_alike r x l t = record {
      rotation = t.rotation;
      seam = elim t.seam [
        | inl s ↦ inl (least_alike r x s)
        | inr s ↦ inr ((λ w k j. s.0 w k (alike.junctions_back w j)), s.1)
      ];
      least = t.least;
    }

    -- what cut_line and cut_ring give for the arcs as lines and rings, looked up in the table, are the pieces of the arcs
    pub open_pieces : (J : V → Type 0) (table : List (List V)) (c : List V) (used : List ArcRef) (cs : List (List V)) → ¬ Free J c → 2 ≤ length c →
        ArePiecesOf cmp a c cs → AreTaken table used cs → ArePiecesOfArc cmp J (JunctionOf u) table c used
    open_pieces J table c used cs f n p t = inl (f, taken_line cmp a table used cs c n p t)

    pub loop_pieces : (J : V → Type 0) (table : List (List V)) (r : List V) (used : List ArcRef) (cs : List (List V)) → Free J (closed r) →
        AreRingPiecesOf cmp a r cs → AreTaken table used cs → ArePiecesOfArc cmp J (JunctionOf u) table (closed r) used
    loop_pieces J table r used cs f p t =
        let k = taken_ring cmp a table used cs r p t in
        inr (r, refl, f, (k.0, k.1, turned_alike r k.0 k.1 k.2, k.3))

  pub alike_back : (a u : Geometry V) → Alike a u → Alike u a
  alike_back a u h = record { segments = h.segments_back; segments_back = h.segments; junctions = h.junctions_back; junctions_back = h.junctions }

  pub arcs_same : (a u : Geometry V) → Alike a u → (t : List (List V)) → AreArcsOf cmp a t → AreArcsOf cmp u t
  arcs_same a u h t k = record {
    sorted = k.sorted;
    arcs_only = λ c i. arc_alike a u h c (k.arcs_only c i);
    all_arcs = λ c i. k.all_arcs c (arc_alike u a (alike_back a u h) c i);
  }
