-- Each arc of a map has its pieces among the arcs of a map that has all of its lines and rings.
use Rattle.std.proofs.Common.{◌≡◌, ℕ, Bool, true, false, cond, not, List, [], ◌∷◌, map, ◌⊎◌, inl, inr, refl, sym, ap, ◌∙◌, subst, Some, slice_get}
use Rattle.std.specs.Cmp.{IsTotalOrder}
use Rattle.std.specs.FinMap.{IsAntisymmetric}
use Rattle.std.specs.declared.cmp.Ordering.{Ordering}
use Rattle.theory.proofs.ArcsAsMap.{arcs_sound, arcs_alike, arcs_same, kind, turned_alike}
use Rattle.theory.proofs.ArcsOfMap.{are_arcs}
use Rattle.theory.proofs.JunctionTest.{some_found, some_none, junction_means, is_answered}
use Rattle.theory.proofs.Lists.{Has-append, Has-append_left, Has-append_right, front-snoc}
use Rattle.theory.proofs.ListsOfLists.{Has-map, map_has, Pairwise-map, Pairwise-same, get_has}
use Rattle.theory.proofs.OneTopology.{arcs_unique}
use Rattle.theory.proofs.Pieces.{SegmentOf-flip}
use Rattle.theory.proofs.RefinementLaws.{pieces_unique, home, chain_side}
use Rattle.theory.proofs.TopologyExists.{line_stitched, ring_stitched}
use Rattle.theory.proofs.Turning.{keep_has, has_keep}
use Rattle.theory.specs.ArcNumbers.{ArcRef, StitchTo, Uses}
use Rattle.theory.specs.Arcs.{AreArcsOf}
use Rattle.theory.specs.Chain.{Free}
use Rattle.theory.specs.Geometry.{Geometry, IsLineOf, IsRingOf, SegmentOf, JunctionOf, IsSound, IsChainOf}
use Rattle.theory.specs.LinesAndRings.{closed}
use Rattle.theory.specs.Lists.{Has, Beside}
use Rattle.theory.specs.Refinement.{IsPartOf, IsUnionOf, Alike, OpenArc, LoopArc, AreArcsAsMap, ArePiecesOfArc, IsRefinementOf, unclosed, arc_cut, recut, arcs_as_map, both_of, pieces_at}
use Rattle.theory.specs.TopologyFunction.{arcs_of, is_junction, keep, line_cut, line_refs, ref_of, ring_cut, ring_refs, some}

pub unclosed-closed : {V : Type 0} (r : List V) → unclosed (closed r) ≡ r
unclosed-closed [] = refl
unclosed-closed (x ∷ l) = front-snoc x x l

not_true : (b : Bool) → not b ≡ true → b ≡ false
not_true true e = absurd cc
not_true false e = refl

-- what is in a part of a map or in the map is in the map
pub whole_union : {V : Type 0} (g u : Geometry V) → IsPartOf g u → IsUnionOf g u u
whole_union g u part = record {
  left = part;
  right = record { lines = λ l h. h; rings = λ r h. h };
  lines = λ l h. inr h;
  rings = λ r h. inr h;
}

-- and so it is in a map taken twice
pub own_union : {V : Type 0} (g : Geometry V) → IsUnionOf g g g
own_union g = whole_union g g (record { lines = λ l h. h; rings = λ r h. h })

module _ {V : Type 0} (cmp : V → V → Ordering) (o : IsTotalOrder cmp) (same : IsAntisymmetric cmp) (dec : (a b : V) → Dec (a ≡ b)) where
  meets : (g : Geometry V) (c : List V) → some (is_junction cmp g) c ≡ true → ¬ Free (JunctionOf g) c
  meets g c e f = let t = some_found (is_junction cmp g) c e in f t.0 t.1 (junction_means cmp o same g t.0 t.2)

  is_free : (g : Geometry V) (c : List V) → some (is_junction cmp g) c ≡ false → Free (JunctionOf g) c
  is_free g c e v h j = some_none (is_junction cmp g) c e v h (is_answered cmp o same g v j)

  meets_means : (g : Geometry V) (c : List V) → ¬ Free (JunctionOf g) c → some (is_junction cmp g) c ≡ true
  meets_means g c n = go (some (is_junction cmp g) c) refl
    where
      go : (b : Bool) → some (is_junction cmp g) c ≡ b → b ≡ true
      go true e = refl
      go false e = absurd (n (is_free g c e))

  free_means : (g : Geometry V) (c : List V) → Free (JunctionOf g) c → some (is_junction cmp g) c ≡ false
  free_means g c f = go (some (is_junction cmp g) c) refl
    where
      go : (b : Bool) → some (is_junction cmp g) c ≡ b → b ≡ false
      go true e = absurd (meets g c e f)
      go false e = refl

  -- the arcs of one map as a map
  module _ (g : Geometry V) (sg : IsSound g) (arcs : List (List V)) (all : AreArcsOf cmp g arcs) where
    open_arc : (l : List V) → IsLineOf (arcs_as_map cmp g arcs) l → OpenArc g arcs l
    open_arc l h = let t = keep_has (some (is_junction cmp g)) arcs l h in (t.0, meets g l t.1)

    arc_open : (l : List V) → OpenArc g arcs l → IsLineOf (arcs_as_map cmp g arcs) l
    arc_open l h = has_keep (some (is_junction cmp g)) arcs l h.0 (meets_means g l h.1)

    loop_arc : (r : List V) → IsRingOf (arcs_as_map cmp g arcs) r → LoopArc g arcs r
    loop_arc r h =
        let t = map_has unclosed (keep (λ c. not (some (is_junction cmp g) c)) arcs) r h in
        let k = keep_has (λ c. not (some (is_junction cmp g) c)) arcs t.0 t.1 in
        let free = is_free g t.0 (not_true (some (is_junction cmp g) t.0) k.1) in
        elim (kind cmp o same dec g sg arcs all t.0 k.0) [
          | inl q ↦ absurd (q.1 free)
          | inr q ↦
              let e : r ≡ q.0 = t.2 ∙ ap unclosed q.1 ∙ unclosed-closed q.0 in
              subst (λ w. LoopArc g arcs w) (sym e) q.2
        ]

    arc_loop : (r : List V) → LoopArc g arcs r → IsRingOf (arcs_as_map cmp g arcs) r
    arc_loop r h =
        subst (λ w. Has w (map unclosed (keep (λ c. not (some (is_junction cmp g) c)) arcs))) (unclosed-closed r)
        (Has-map unclosed (keep (λ c. not (some (is_junction cmp g) c)) arcs) (closed r)
        (has_keep (λ c. not (some (is_junction cmp g) c)) arcs (closed r) h.0 (ap not (free_means g (closed r) h.1))))

    pub as_map_alone : AreArcsAsMap g g arcs arcs (arcs_as_map cmp g arcs)
    as_map_alone = record {
      lines = λ l h. inl (open_arc l h);
      rings = λ r h. inl (loop_arc r h);
      open_left = arc_open;
      open_right = arc_open;
      loop_left = arc_loop;
      loop_right = arc_loop;
    }

  -- the arcs of two maps as a map
  pub are_arcs_as_map : (m n : Geometry V) → IsSound m → IsSound n → (ms ns : List (List V)) → AreArcsOf cmp m ms → AreArcsOf cmp n ns →
      AreArcsAsMap m n ms ns (both_of (arcs_as_map cmp m ms) (arcs_as_map cmp n ns))
  are_arcs_as_map m n sm sn ms ns am an = record {
    lines = λ l h. elim (Has-append l (arcs_as_map cmp m ms).lines (arcs_as_map cmp n ns).lines h) [
      | inl k ↦ inl (open_arc m sm ms am l k)
      | inr k ↦ inr (open_arc n sn ns an l k)
    ];
    rings = λ r h. elim (Has-append r (arcs_as_map cmp m ms).rings (arcs_as_map cmp n ns).rings h) [
      | inl k ↦ inl (loop_arc m sm ms am r k)
      | inr k ↦ inr (loop_arc n sn ns an r k)
    ];
    open_left = λ l h. Has-append_left l (arcs_as_map cmp m ms).lines (arcs_as_map cmp n ns).lines (arc_open m sm ms am l h);
    open_right = λ l h. Has-append_right l (arcs_as_map cmp m ms).lines (arcs_as_map cmp n ns).lines (arc_open n sn ns an l h);
    loop_left = λ r h. Has-append_left r (arcs_as_map cmp m ms).rings (arcs_as_map cmp n ns).rings (arc_loop m sm ms am r h);
    loop_right = λ r h. Has-append_right r (arcs_as_map cmp m ms).rings (arcs_as_map cmp n ns).rings (arc_loop n sn ns an r h);
  }

  module _ (g u : Geometry V) (sg : IsSound g) (su : IsSound u) (part : IsPartOf g u)
      (arcs table : List (List V)) (ag : AreArcsOf cmp g arcs) (au : AreArcsOf cmp u table) where
    abbrev a : Geometry V
    a = both_of (arcs_as_map cmp g arcs) (arcs_as_map cmp u table)

    as_map : AreArcsAsMap g u arcs table a
    as_map = are_arcs_as_map g u sg su arcs table ag au

    sa : IsSound a
    sa = arcs_sound cmp o same dec g u u sg su su (whole_union g u part) arcs table ag au a as_map

    alike : Alike a u
    alike = arcs_alike cmp o same dec g u u sg su su (whole_union g u part) arcs table ag au a as_map

    same_arcs : arcs_of cmp a ≡ table
    same_arcs = arcs_unique cmp o same dec u (arcs_of cmp a) table
        (arcs_same cmp o same dec a u alike (arcs_of cmp a) (are_arcs cmp o same dec a sa)) au

    -- the two maps have one test for junctions
    same_test : (v : V) → is_junction cmp a v ≡ is_junction cmp u v
    same_test v = go (is_junction cmp a v) refl (is_junction cmp u v) refl
      where
        go : (p : Bool) → is_junction cmp a v ≡ p → (q : Bool) → is_junction cmp u v ≡ q → p ≡ q
        go true e true f = refl
        go false e false f = refl
        go true e false f = sym (is_answered cmp o same u v (alike.junctions v (junction_means cmp o same a v e))) ∙ f
        go false e true f = sym e ∙ is_answered cmp o same a v (alike.junctions_back v (junction_means cmp o same u v f))

    tests : is_junction cmp a ≡ is_junction cmp u
    tests = λ i v. same_test v i

    of_open : (c : List V) → OpenArc g arcs c → line_refs cmp a c ≡ map (ref_of cmp table) (arc_cut cmp (is_junction cmp g) (is_junction cmp u) c)
    of_open c h =
        ap (λ w. map (ref_of cmp w) (line_cut (is_junction cmp a) c)) same_arcs
        ∙ ap (λ w. map (ref_of cmp table) (line_cut w c)) tests
        ∙ sym (ap (λ w. map (ref_of cmp table) (cond w (line_cut (is_junction cmp u) c) (ring_cut cmp (is_junction cmp u) (unclosed c)))) (meets_means g c h.1))

    of_loop : (r : List V) → LoopArc g arcs r → ring_refs cmp a r ≡ map (ref_of cmp table) (arc_cut cmp (is_junction cmp g) (is_junction cmp u) (closed r))
    of_loop r h =
        ap (λ w. map (ref_of cmp w) (ring_cut cmp (is_junction cmp a) r)) same_arcs
        ∙ ap (λ w. map (ref_of cmp table) (ring_cut cmp w r)) tests
        ∙ ap (λ w. map (ref_of cmp table) (ring_cut cmp (is_junction cmp u) w)) (sym (unclosed-closed r))
        ∙ sym (ap (λ w. map (ref_of cmp table) (cond w (line_cut (is_junction cmp u) (closed r)) (ring_cut cmp (is_junction cmp u) (unclosed (closed r))))) (free_means g (closed r) h.1))

    -- the pieces of an arc
    arc_pieces : (c : List V) → Has c arcs →
        ArePiecesOfArc cmp (JunctionOf g) (JunctionOf u) table c (map (ref_of cmp table) (arc_cut cmp (is_junction cmp g) (is_junction cmp u) c))
    arc_pieces c h =
        elim (kind cmp o same dec g sg arcs ag c h) [
          | inl k ↦ inl (
            k.1,
            subst (λ w. StitchTo table w c) (of_open c k)
                (subst (λ w. StitchTo w (line_refs cmp a c) c) same_arcs (line_stitched cmp o same dec a sa c (as_map.open_left c k))),
          )
          | inr k ↦ subst (λ w. ArePiecesOfArc cmp (JunctionOf g) (JunctionOf u) table w (map (ref_of cmp table) (arc_cut cmp (is_junction cmp g) (is_junction cmp u) w))) (sym k.1)
              (let s = ring_stitched cmp o same dec a sa k.0 (as_map.loop_left k.0 k.2) in
              inr (
                k.0,
                refl,
                k.2.1,
                (
                  s.0,
                  s.1,
                  turned_alike cmp o same dec a u alike k.0 s.0 s.1 s.2,
                  subst (λ w. StitchTo table w (closed (s.0 ∷ s.1))) (of_loop k.0 k.2)
                      (subst (λ w. StitchTo w (ring_refs cmp a k.0) (closed (s.0 ∷ s.1))) same_arcs s.3),
                ),
              ))
        ]

    -- `recut` has the pieces of all arcs
    pub recut_refines : IsRefinementOf cmp g u arcs table (recut cmp g u arcs table)
    recut_refines = record {
      old = ag;
      new = au;
      cut = Pairwise-map (ArePiecesOfArc cmp (JunctionOf g) (JunctionOf u) table)
          (λ c. map (ref_of cmp table) (arc_cut cmp (is_junction cmp g) (is_junction cmp u) c)) arcs arc_pieces;
    }

    -- and no other lists are those of the pieces
    pub refinement_once : (p q : List (List ArcRef)) → IsRefinementOf cmp g u arcs table p → IsRefinementOf cmp g u arcs table q → p ≡ q
    refinement_once p q h k =
        Pairwise-same (ArePiecesOfArc cmp (JunctionOf g) (JunctionOf u) table)
        (pieces_unique cmp o same dec (JunctionOf g) u su table au) arcs p q h.cut k.cut

  -- each arc of two maps together is a piece of an arc of one of them
  pub arcs_are_pieces : (m n u : Geometry V) → IsSound m → IsSound n → IsSound u → IsUnionOf m n u → (ms ns table : List (List V)) →
      (left right : List (List ArcRef)) → IsRefinementOf cmp m u ms table left → IsRefinementOf cmp n u ns table right →
      (k : ℕ) (d : List V) → slice_get table k ≡ Some d →
      ((i : ℕ) × Uses k (pieces_at left i)) ⊎ ((i : ℕ) × Uses k (pieces_at right i))
  arcs_are_pieces m n u sm sn su union ms ns table left right hm hn k d e =
      let c : IsChainOf cmp u d = (hm.new.arcs_only d (get_has table k d e)).chain in
      let s = chain_side cmp o same dec u su table hm.new d c in
      elim (of_one s.0 s.1 (segment d c s.0 s.1 s.2)) [
        | inl g ↦ (let t = home cmp o same dec u su table hm.new m sm union.left ms left hm k d s.0 s.1 e s.2 g in inl (t.0, t.3))
        | inr g ↦ (let t = home cmp o same dec u su table hm.new n sn union.right ns right hn k d s.0 s.1 e s.2 g in inr (t.0, t.3))
      ]
    where
      segment : (d : List V) → IsChainOf cmp u d → (x y : V) → Beside x y d → SegmentOf u x y
      segment [] c x y b = absurd c
      segment (z ∷ r) c x y (inl b) = c.along x y b
      segment (z ∷ r) c x y (inr b) = SegmentOf-flip u su dec y x (c.along y x b)

      of_one : (x y : V) → SegmentOf u x y → SegmentOf m x y ⊎ SegmentOf n x y
      of_one x y (inl (l, i, b)) = elim (union.lines l i) [ inl h ↦ inl (inl (l, h, b)) | inr h ↦ inr (inl (l, h, b)) ]
      of_one x y (inr (r, i, b)) = elim (union.rings r i) [ inl h ↦ inl (inr (r, h, b)) | inr h ↦ inr (inr (r, h, b)) ]
