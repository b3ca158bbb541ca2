-- The list of a line or ring, with its pieces in place of each old arc, is the new list.
use Rattle.std.proofs.Common.{◌≡◌, ◌≤◌, Bool, true, false, cond, List, [], ◌∷◌, ◌++◌, length, reverse, map, inl, inr, refl, sym, ap, ◌∙◌, subst, arith, Some}
use Rattle.std.proofs.lemmas.Cmp.{lists_total}
use Rattle.std.proofs.lemmas.List.{append-nil, length-append}
use Rattle.std.specs.Cmp.{IsTotalOrder}
use Rattle.std.specs.Cmp.Lexicographic.{slice_cmp}
use Rattle.std.specs.FinMap.{IsAntisymmetric, slice_cmp-IsAntisymmetric}
use Rattle.std.specs.declared.cmp.Ordering.{Ordering}
use Rattle.theory.proofs.ArcNumbers.{along_get, from_to, taken_back, taken_join, taken_of, taken_stitch, to_from}
use Rattle.theory.proofs.ArcsOfMap.{passes, stop, stops}
use Rattle.theory.proofs.Ascending.{at_most_self}
use Rattle.theory.proofs.ChainLists.{chain_not_empty, same_head}
use Rattle.theory.proofs.ClosedLists.{Distinct-rotate, closed_same}
use Rattle.theory.proofs.Lists.{append_cancel, front-snoc}
use Rattle.theory.proofs.OneTopology.{along_chain}
use Rattle.theory.proofs.Pieces.{SegmentOf-flip, ring_loop, two_segments_of}
use Rattle.theory.proofs.RefinementLaws.{home, inside, one_home, one_place, pairwise_at, part_junction, same_le}
use Rattle.theory.proofs.Reversing.{Has-reverse, Has-unreverse, reverse-join, reverse-last, reverse-snoc}
use Rattle.theory.proofs.Rotations.{ring_list_rotated, rotation_back, rotation_has, rotation_trans}
use Rattle.theory.proofs.Stitching.{stitched_join, stitched_reverse}
use Rattle.theory.proofs.TurnedLists.{one_rotation, rotation_at, turn_list}
use Rattle.theory.specs.ArcNumbers.{ArcRef, StitchFrom, StitchTo, along, backwards}
use Rattle.theory.specs.Arcs.{AreArcsOf}
use Rattle.theory.specs.Chain.{Chain, Free}
use Rattle.theory.specs.Geometry.{AtMost, Geometry, IsChainOf, IsLineOf, IsRingOf, IsSound, JunctionOf, SegmentOf}
use Rattle.theory.specs.LinesAndRings.{IsRotation, closed}
use Rattle.theory.specs.Lists.{Distinct, Has, front_of, last_of}
use Rattle.theory.specs.Refinement.{ArePiecesOfArc, IsPartOf, IsRefinementOf, RefinementLaws, pieces_at, pieces_of_used, replaced}
use Rattle.theory.specs.Seam.{Any, IsLeastOf}
use Rattle.theory.specs.Topology.{IsRingList}

stitch_join : {V : Type 0} (arcs : List (List V)) (x : V) (us vs : List ArcRef) (q s : List V) → StitchFrom arcs x us q → StitchFrom arcs (last_of x q) vs s →
    StitchFrom arcs x (us ++ vs) (q ++ s)
stitch_join arcs x us vs q s h k =
    let t = taken_of arcs x us q h in
    let t' = taken_of arcs (last_of x q) vs s k in
    taken_stitch arcs (us ++ vs) (t.0 ++ t'.0) x (q ++ s) (taken_join arcs us vs t.0 t'.0 t.1 t'.1) (stitched_join x t.0 t'.0 q s t.2 t'.2)

stitch_back : {V : Type 0} (arcs : List (List V)) (x : V) (us : List ArcRef) (r : List V) → StitchFrom arcs x us r →
    StitchFrom arcs (last_of x r) (backwards us) (reverse (front_of x r))
stitch_back arcs x us r h =
    let t = taken_of arcs x us r h in
    taken_stitch arcs (backwards us) (reverse (map reverse t.0)) (last_of x r) (reverse (front_of x r)) (taken_back arcs us t.0 t.1) (stitched_reverse x t.0 r t.2)

-- the pieces of a used arc stitch to what it runs along
used_stitch : {V : Type 0} (table : List (List V)) (b : Bool) (ps : List ArcRef) (c : List V) (x : V) (q : List V) → StitchTo table ps c →
    x ∷ q ≡ cond b (reverse c) c → StitchFrom table x (cond b (backwards ps) ps) q
used_stitch table false ps c x q h e = to_from table ps x q (subst (λ w. StitchTo table ps w) (sym e) h)
used_stitch table true ps [] x q h e = absurd cc
used_stitch table true ps (y ∷ p) x q h e =
    let k : x ∷ q ≡ last_of y p ∷ reverse (front_of y p) = e ∙ reverse-last y p in
    let a : last_of y p ≡ x = cc in
    let b : reverse (front_of y p) ≡ q = cc in
    subst (λ w. StitchFrom table w (backwards ps) q) a
    (subst (λ w. StitchFrom table (last_of y p) (backwards ps) w) b (stitch_back table y ps p (to_from table ps y p h)))

pub rotation_reverse : {V : Type 0} (a b : List V) → IsRotation a b → IsRotation (reverse a) (reverse b)
rotation_reverse a b (s, t, e, f) = (reverse t, reverse s, ap reverse e ∙ reverse-join s t, ap reverse f ∙ reverse-join t s)

closed_back : {V : Type 0} (p : V) (q : List V) → reverse (closed (p ∷ q)) ≡ closed (p ∷ reverse q)
closed_back p q =
    reverse-snoc p (q ++ (p ∷ [])) ∙ ap (λ w. w ++ (p ∷ [])) (reverse-join q (p ∷ []))

module _ {V : Type 0} (cmp : V → V → Ordering) (o : IsTotalOrder cmp) (same : IsAntisymmetric cmp) (dec : (a b : V) → Dec (a ≡ b))
    (u : Geometry V) (su : IsSound u) (table : List (List V)) (all : AreArcsOf cmp u table)
    (g : Geometry V) (sg : IsSound g) (part : IsPartOf g u) (arcs : List (List V)) (pieces : List (List ArcRef))
    (ref : IsRefinementOf cmp g u arcs table pieces) where
  le : (a b : V) → AtMost cmp a b → AtMost cmp b a → a ≡ b
  le = same_le cmp o same dec

  grow : (v : V) → JunctionOf g v → JunctionOf u v
  grow = part_junction cmp o same dec g u part

  -- a chain that begins at a junction ends at one
  far_end : (x : V) (q : List V) → IsChainOf cmp g (x ∷ q) → JunctionOf g x → JunctionOf g (last_of x q)
  far_end x q k j = elim k.ends [ inl e ↦ e.1 | inr e ↦ absurd (e.1 x (inl refl) j) ]

  open_reverse : (b : Bool) (x : V) (q c : List V) → JunctionOf g x → x ∷ q ≡ cond b (reverse c) c → ¬ Free (JunctionOf g) c
  open_reverse false x q c j e f = f x (subst (λ w. Has x w) e (inl refl)) j
  open_reverse true x q c j e f = f x (Has-unreverse x c (subst (λ w. Has x w) e (inl refl))) j

  one_replaced : (a : ArcRef) (x : V) (q : List V) → along arcs a ≡ Some (x ∷ q) → JunctionOf g x → StitchFrom table x (pieces_of_used pieces a) q
  one_replaced a x q e j =
      let t = along_get arcs a (x ∷ q) e in
      elim (pairwise_at (ArePiecesOfArc cmp (JunctionOf g) (JunctionOf u) table) arcs pieces ref.cut a.arc t.0 t.1) [
        | inl h ↦ used_stitch table a.reversed (pieces_at pieces a.arc) t.0 x q h.1 t.2
        | inr h ↦ absurd (open_reverse a.reversed x q t.0 j t.2 h.2)
      ]

  -- from a junction on, no used arc is free
  open_replaced : (used : List ArcRef) (x : V) (r : List V) → StitchFrom arcs x used r → JunctionOf g x → StitchFrom table x (replaced pieces used) r
  open_replaced [] x r h j = h
  open_replaced (a ∷ used) x r h j =
      let k : IsChainOf cmp g (x ∷ h.0) = along_chain cmp o same dec g sg arcs ref.old a (x ∷ h.0) h.2 in
      subst (λ w. StitchFrom table x (replaced pieces (a ∷ used)) w) (sym h.3)
      (stitch_join table x (pieces_of_used pieces a) (replaced pieces used) h.0 h.1 (one_replaced a x h.0 h.2 j)
      (open_replaced used (last_of x h.0) h.1 h.4 (far_end x h.0 k j)))

  pub line : (l : List V) (used : List ArcRef) → IsLineOf g l → StitchTo arcs used l → StitchTo table (replaced pieces used) l
  line [] used i h = let n : 2 ≤ 0 = (sg.lines [] i).long in absurd (omega arith)
  line (x ∷ r) used i h =
      let n : 2 ≤ length (x ∷ r) = (sg.lines (x ∷ r) i).long in
      from_to table (replaced pieces used) x r (omega (arith, n))
      (open_replaced used x r (to_from arcs used x r h) (inl (x ∷ r, i, inl refl)))

  abbrev pub RingAnswer : List V → List ArcRef → Type 0
  RingAnswer r used = (before : List ArcRef) × (behind : List ArcRef) × (replaced pieces used ≡ before ++ behind) ×
      IsRingList cmp (JunctionOf u) table r (behind ++ before)

  -- a ring that is free under the junctions of g
  module _ (r : List V) (x : V) (l : List V) (i : IsRingOf g r) (ro : IsRotation r (x ∷ l)) (free : (v : V) → Has v r → ¬ JunctionOf g v)
      (least : IsLeastOf cmp Any r x) where
    free_chain : Chain (SegmentOf g) (JunctionOf g) (AtMost cmp) x (l ++ (x ∷ []))
    free_chain =
        let t = rotation_at r x l ro in
        subst (λ w. Chain (SegmentOf g) (JunctionOf g) (AtMost cmp) x (w ++ (x ∷ []))) (sym t.3)
        (ring_loop g sg dec (AtMost cmp) (stop cmp o same dec g sg) (stops cmp o same dec g sg) (passes cmp o same dec g sg) t.0 t.1 x
        (subst (IsRingOf g) t.2 i)
        (λ v h. free v (subst (λ w. Has v w) (sym t.2) h))
        (λ v h. least.least v (subst (λ w. Has v w) (sym t.2) h) tt))

    free_all : Free (JunctionOf g) (closed (x ∷ l))
    free_all = elim free_chain.ends [ inl j ↦ absurd (free x (rotation_has (x ∷ l) r (rotation_back r (x ∷ l) ro) x (inl refl)) j.0) | inr f ↦ f.1 ]

    has_turned : (p : V) (q : List V) → x ∷ l ≡ p ∷ reverse q → (v : V) → Has v r → Has v (p ∷ q)
    has_turned p q e v h = elim (subst (λ w. Has v w) e (rotation_has r (x ∷ l) ro v h)) [ inl k ↦ inl k | inr k ↦ inr (Has-unreverse v q k) ]

    turned_has : (p : V) (q : List V) → x ∷ l ≡ p ∷ reverse q → (v : V) → Has v (p ∷ q) → Has v r
    turned_has p q e v h =
        rotation_has (x ∷ l) r (rotation_back r (x ∷ l) ro) v
        (subst (λ w. Has v w) (sym e) (elim h [ inl k ↦ inl k | inr k ↦ inr (Has-reverse v q k) ]))

    least_turned : (P : V → Type 0) (p : V) (q : List V) → x ∷ l ≡ p ∷ reverse q → (y : V) → IsLeastOf cmp P (p ∷ q) y → IsLeastOf cmp P r y
    least_turned P p q e y h = record {
      there = turned_has p q e y h.there;
      has_it = h.has_it;
      least = λ v k j. h.least v (has_turned p q e v k) j;
    }

    free_list : (b : Bool) (ps : List ArcRef) (d loop : List V) → d ≡ closed loop → closed (x ∷ l) ≡ cond b (reverse d) d →
        IsRingList cmp (JunctionOf u) table loop ps → IsRingList cmp (JunctionOf u) table r (cond b (backwards ps) ps)
    free_list false ps d loop e f list =
        let k : x ∷ l ≡ loop = closed_same (x ∷ l) loop (f ∙ e) in
        ring_list_rotated cmp (JunctionOf u) table (x ∷ l) r ps (rotation_back r (x ∷ l) ro)
        (subst (λ w. IsRingList cmp (JunctionOf u) table w ps) (sym k) list)
    free_list true ps d [] e f list = absurd (let k : closed (x ∷ l) ≡ [] = f ∙ ap reverse e in cc)
    free_list true ps d (p ∷ q) e f (y, m, tn, st) =
        let k : x ∷ l ≡ p ∷ reverse q = closed_same (x ∷ l) (p ∷ reverse q) (f ∙ ap reverse e ∙ closed_back p q) in
        let back : IsRotation (reverse (p ∷ q)) (reverse (y ∷ m)) = rotation_reverse (p ∷ q) (y ∷ m) tn.rotation in
        let first : IsRotation (p ∷ reverse q) (reverse (p ∷ q)) = (p ∷ [], reverse q, refl, reverse-snoc p q) in
        let last : IsRotation (reverse (y ∷ m)) (y ∷ reverse m) = (reverse m, y ∷ [], reverse-snoc y m, refl) in
        let turned : IsRotation (x ∷ l) (y ∷ reverse m) =
        subst (λ w. IsRotation w (y ∷ reverse m)) (sym k)
        (rotation_trans (p ∷ reverse q) (reverse (p ∷ q)) (y ∷ reverse m) first (rotation_trans (reverse (p ∷ q)) (reverse (y ∷ m)) (y ∷ reverse m) back last)) in
        let whole : Distinct (x ∷ l) = subst Distinct (front-snoc x x l) free_chain.front_simple in
        let dis : Distinct (y ∷ reverse m) = subst Distinct (sym turned.3) (Distinct-rotate turned.0 turned.1 (subst Distinct turned.2 whole)) in (
          y,
          reverse m,
          record {
            rotation = rotation_trans r (x ∷ l) (y ∷ reverse m) ro turned;
            seam = elim tn.seam [
              | inl s ↦ inl (least_turned (JunctionOf u) p q k y s)
              | inr s ↦ inr ((λ v h. s.0 v (has_turned p q k v h)), least_turned Any p q k y s.1)
            ];
            least = λ n h.
                let z : n ≡ reverse m = one_rotation y (reverse m) n dis
                (rotation_trans (y ∷ reverse m) (x ∷ l) (y ∷ n) (rotation_back (x ∷ l) (y ∷ reverse m) turned)
                (rotation_trans (x ∷ l) r (y ∷ n) (rotation_back r (x ∷ l) ro) h)) in
                subst (λ w. AtMost (slice_cmp cmp) (y ∷ reverse m) (y ∷ w)) (sym z) (at_most_self (slice_cmp cmp) (lists_total o) (slice_cmp-IsAntisymmetric same) (y ∷ reverse m));
          },
          from_to table (backwards ps) y (reverse m ++ (y ∷ [])) (simp length-append (omega arith))
              (used_stitch table true ps (closed (y ∷ m)) y (reverse m ++ (y ∷ [])) st (sym (closed_back y m))),
        )

    not_free : (b : Bool) (d : List V) → closed (x ∷ l) ≡ cond b (reverse d) d → Free (JunctionOf g) d
    not_free false d e v h = free_all v (subst (λ w. Has v w) (sym e) h)
    not_free true d e v h = free_all v (subst (λ w. Has v w) (sym e) (Has-reverse v d h))

    one_free : (a : ArcRef) → along arcs a ≡ Some (closed (x ∷ l)) → IsRingList cmp (JunctionOf u) table r (pieces_of_used pieces a)
    one_free a e =
        let t = along_get arcs a (closed (x ∷ l)) e in
        elim (pairwise_at (ArePiecesOfArc cmp (JunctionOf g) (JunctionOf u) table) arcs pieces ref.cut a.arc t.0 t.1) [
          | inl h ↦ absurd (h.0 (not_free a.reversed t.0 t.2))
          | inr h ↦ free_list a.reversed (pieces_at pieces a.arc) t.0 h.0 h.1 t.2 h.3
        ]

    free_ring : (used : List ArcRef) → StitchTo arcs used (closed (x ∷ l)) → RingAnswer r used
    free_ring [] h = absurd cc
    free_ring (a ∷ more) h =
        let ck : IsChainOf cmp g (x ∷ h.0) = along_chain cmp o same dec g sg arcs ref.old a (x ∷ h.0) h.2 in
        let e : l ++ (x ∷ []) ≡ h.0 =
        same_head (SegmentOf g) (JunctionOf g) (AtMost cmp) (SegmentOf-flip g sg dec) (two_segments_of g sg dec) le x (l ++ (x ∷ [])) [] h.0 h.1 free_chain ck
        (append-nil (l ++ (x ∷ [])) ∙ h.3) in
        let n : h.1 ≡ [] = append_cancel h.0 h.1 [] (sym h.3 ∙ e ∙ sym (append-nil h.0)) in
        let al : along arcs a ≡ Some (closed (x ∷ l)) = h.2 ∙ ap (λ w. Some (x ∷ w)) (sym e) in
        go more (last_of x h.0) (subst (λ w. StitchFrom arcs (last_of x h.0) more w) n h.4) al
      where
        go : (more : List ArcRef) (y : V) → StitchFrom arcs y more [] → along arcs a ≡ Some (closed (x ∷ l)) → RingAnswer r (a ∷ more)
        go [] y k al = (
          [],
          pieces_of_used pieces a ++ [],
          refl,
          subst (λ w. IsRingList cmp (JunctionOf u) table r w)
              (sym (append-nil (pieces_of_used pieces a ++ []) ∙ append-nil (pieces_of_used pieces a))) (one_free a al),
        )
        go (b ∷ more) y k al =
            absurd (chain_not_empty (SegmentOf g) (JunctionOf g) (AtMost cmp) (SegmentOf-flip g sg dec) (two_segments_of g sg dec) le y k.0 k.1
            (along_chain cmp o same dec g sg arcs ref.old b (y ∷ k.0) k.2) k.3)

  pub ring : (r : List V) (used : List ArcRef) → IsRingOf g r → IsRingList cmp (JunctionOf g) arcs r used → RingAnswer r used
  ring r used i (x, l, tn, st) =
      elim tn.seam [
        | inl k ↦ turn_list cmp o same dec u su table all r x l (replaced pieces used) (part.rings r i) tn.rotation (grow x k.has_it)
            (open_replaced used x (l ++ (x ∷ [])) (to_from arcs used x (l ++ (x ∷ [])) st) k.has_it)
        | inr k ↦ free_ring r x l i tn.rotation k.0 k.1 used st
      ]

  pub refinement_laws : RefinementLaws cmp g u arcs table pieces
  refinement_laws = record {
    home = home cmp o same dec u su table all g sg part arcs pieces ref;
    inside = inside cmp o same dec u su table all g sg part arcs pieces ref;
    one_home = one_home cmp o same dec u su table all g sg part arcs pieces ref;
    one_place = one_place cmp o same dec u su table all g sg part arcs pieces ref;
    line = line;
    ring = ring;
  }
