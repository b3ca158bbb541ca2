-- A list of used arcs that stitches to a ring, begun anywhere, is the ring's list once it is turned to begin where it starts least.
use Rattle.std.proofs.Common.{◌≡◌, List, [], ◌∷◌, ◌++◌, inl, inr, refl, sym, ap, ◌∙◌, subst, Some}
use Rattle.std.proofs.lemmas.Cmp.{lists_total}
use Rattle.std.proofs.lemmas.List.{append-nil}
use Rattle.std.specs.Cmp.{IsTotalOrder}
use Rattle.std.specs.Cmp.Lexicographic.{slice_cmp}
use Rattle.std.specs.FinMap.{IsAntisymmetric, slice_cmp-IsAntisymmetric}
use Rattle.std.specs.declared.cmp.Ordering.{Ordering}
use Rattle.theory.proofs.Ascending.{at_most_same, at_most_self}
use Rattle.theory.proofs.Chains.{saturated}
use Rattle.theory.proofs.Lists.{Has-append_left, front-snoc}
use Rattle.theory.proofs.OneTopology.{along_chain}
use Rattle.theory.proofs.Pieces.{SegmentOf-flip, two_segments_of}
use Rattle.theory.proofs.Reversing.{same_beside}
use Rattle.theory.proofs.RingListStart.{least_start, second, turned_used_is}
use Rattle.theory.proofs.Rotations.{rotation_back, rotation_has, rotation_trans}
use Rattle.theory.proofs.SegmentsOnce.{segments_once}
use Rattle.theory.proofs.ValidMaps.{along_same}
use Rattle.theory.proofs.TurnedLists.{one_rotation, turn_list}
use Rattle.theory.specs.ArcNumbers.{ArcRef, StartsLeast, StitchFrom, StitchTo, Uses, UsesOnce, along}
use Rattle.theory.specs.Arcs.{AreArcsOf}
use Rattle.theory.specs.Geometry.{AtMost, Geometry, IsChainOf, IsRingOf, IsSound, JunctionOf, SegmentOf}
use Rattle.theory.specs.LinesAndRings.{IsRotation, closed}
use Rattle.theory.specs.Lists.{Beside, Distinct, Has, Steps, front_of, last_of}
use Rattle.theory.specs.Refinement.{turned_used}
use Rattle.theory.specs.Seam.{IsTurned}
use Rattle.theory.specs.Validity.{IsListOfRing}
use Rattle.theory.specs.Topology.{IsRingList}

module _ {V : Type 0} (cmp : V → V → Ordering) (o : IsTotalOrder cmp) (same : IsAntisymmetric cmp) (dec : (a b : V) → Dec (a ≡ b))
    (g : Geometry V) (sg : IsSound g) (arcs : List (List V)) (all : AreArcsOf cmp g arcs) where
  -- the ring's list, but for its beginning
  abbrev pub RingParts : List V → List ArcRef → Type 0
  RingParts r used = (before : List ArcRef) × (behind : List ArcRef) × (used ≡ before ++ behind) × IsRingList cmp (JunctionOf g) arcs r (behind ++ before)

  module _ (r : List V) (i : IsRingOf g r) (x : V) (l : List V) (ro : IsRotation r (x ∷ l)) where
    -- a used arc without a junction is all of its list
    no_more : (b : ArcRef) (more : List ArcRef) (q : List V) → along arcs b ≡ Some (x ∷ q) → x ≡ last_of x q → ¬ JunctionOf g x →
        (s : List V) → StitchFrom arcs (last_of x q) more s → ¬ Uses b.arc more → s ≡ []
    no_more b [] q e shut nj s h n = h
    no_more b (c ∷ more) q e shut nj s h n =
        let k : IsChainOf cmp g (x ∷ q) = along_chain cmp o same dec g sg arcs all b (x ∷ q) e in
        let f : along arcs c ≡ Some (x ∷ h.0) = subst (λ w. along arcs c ≡ Some (w ∷ h.0)) (sym shut) h.2 in
        let t = second cmp o same dec g sg arcs all c x h.0 f in
        let m : IsChainOf cmp g (x ∷ h.0) = along_chain cmp o same dec g sg arcs all c (x ∷ h.0) f in
        let there : Beside x t.0 (x ∷ h.0) = subst (λ w. Beside x t.0 (x ∷ w)) (sym t.2) (inl (inl (refl, refl))) in
        let also : Beside x t.0 (x ∷ q) =
        saturated (SegmentOf g) (JunctionOf g) (AtMost cmp) (SegmentOf-flip g sg dec) (two_segments_of g sg dec) (at_most_same cmp o same)
        x q k x t.0 (inl refl) nj (m.along x t.0 (subst (λ w. Steps x t.0 (x ∷ w)) (sym t.2) (inl (refl, refl)))) in
        let d = along_same arcs b (x ∷ q) e in
        let d' = along_same arcs c (x ∷ h.0) f in
        absurd (n (inl ((segments_once cmp o same dec g sg arcs all).one_arc x t.0 b.arc c.arc d.0 d'.0 d.1 d'.1
        (same_beside x t.0 (x ∷ q) d.0 d.2 also) (same_beside x t.0 (x ∷ h.0) d'.0 d'.2 there))))

    -- and the ring is it, turned
    loop_turned : (q : List V) → l ++ (x ∷ []) ≡ q → IsChainOf cmp g (x ∷ q) → ((v : V) → Has v (x ∷ q) → ¬ JunctionOf g v) →
        ((v : V) → Has v (x ∷ q) → AtMost cmp x v) → IsTurned cmp (JunctionOf g) r x l
    loop_turned q e k free least =
        let within : (v : V) → Has v r → Has v (x ∷ q) =
        λ v h. subst (λ w. Has v (x ∷ w)) e (Has-append_left v (x ∷ l) (x ∷ []) (rotation_has r (x ∷ l) ro v h)) in
        let dis : Distinct (x ∷ l) = subst Distinct (front-snoc x x l) (subst (λ w. Distinct (front_of x w)) (sym e) k.front_simple) in
        record {
          rotation = ro;
          seam = inr (
            (λ v h. free v (within v h)),
            record {
              there = rotation_has (x ∷ l) r (rotation_back r (x ∷ l) ro) x (inl refl);
              has_it = tt;
              least = λ v h p. least v (within v h);
            },
          );
          least = λ m h.
              let z : m ≡ l = one_rotation x l m dis (rotation_trans (x ∷ l) r (x ∷ m) (rotation_back r (x ∷ l) ro) h) in
              subst (λ w. AtMost (slice_cmp cmp) (x ∷ l) (x ∷ w)) (sym z)
              (at_most_self (slice_cmp cmp) (lists_total o) (slice_cmp-IsAntisymmetric same) (x ∷ l));
        }

    parts_of : (b : ArcRef) (more : List ArcRef) → StitchFrom arcs x (b ∷ more) (l ++ (x ∷ [])) → ¬ Uses b.arc more → RingParts r (b ∷ more)
    parts_of b more h n =
        let k : IsChainOf cmp g (x ∷ h.0) = along_chain cmp o same dec g sg arcs all b (x ∷ h.0) h.2 in
        elim k.ends [
          | inl j ↦ turn_list cmp o same dec g sg arcs all r x l (b ∷ more) i ro j.0 h
          | inr f ↦
              let none : h.1 ≡ [] = no_more b more h.0 h.2 f.0 (f.1 x (inl refl)) h.1 h.4 n in
              let e : l ++ (x ∷ []) ≡ h.0 = h.3 ∙ ap (λ w. h.0 ++ w) none ∙ append-nil h.0 in
              ([], b ∷ more, refl, subst (λ w. IsRingList cmp (JunctionOf g) arcs r w) (sym (append-nil (b ∷ more))) (x, l, loop_turned h.0 e k f.1 f.2, h))
        ]

  pub ring_parts : (r : List V) → IsRingOf g r → (used : List ArcRef) → IsListOfRing arcs r used → RingParts r used
  ring_parts r i used st = go used st.some st.around.0 st.around.1 st.around.2 st.once
    where
      go : (used : List ArcRef) → ¬ (used ≡ []) → (q : List V) → IsRotation r q → StitchTo arcs used (closed q) → UsesOnce used → RingParts r used
      go [] n q ro h u = absurd (n refl)
      go (b ∷ more) n [] ro h u = absurd h
      go (b ∷ more) n (x ∷ l) ro h u = parts_of r i x l ro b more h u.0

  -- turned to begin where it starts least, it is the ring's list
  pub ring_turned : (r : List V) → IsRingOf g r → (used : List ArcRef) → IsListOfRing arcs r used →
      IsRingList cmp (JunctionOf g) arcs r (turned_used cmp arcs used)
  ring_turned r i used st =
      let t = ring_parts r i used st in
      let e : turned_used cmp arcs used ≡ t.1 ++ t.0 = ap (λ w. turned_used cmp arcs w) t.2 ∙ turned_used_is cmp o same dec g sg arcs all r i t.0 t.1 t.3 in
      subst (λ w. IsRingList cmp (JunctionOf g) arcs r w) (sym e) t.3

  -- so it stands, where it begins with the used arc that starts least
  pub is_valid_ring : (r : List V) → IsRingOf g r → (a : ArcRef) (more : List ArcRef) → IsListOfRing arcs r (a ∷ more) →
      (y z : V) (q : List V) → along arcs a ≡ Some (y ∷ (z ∷ q)) → StartsLeast cmp arcs y z (a ∷ more) →
      IsRingList cmp (JunctionOf g) arcs r (a ∷ more)
  is_valid_ring r i a more st y z q e least =
      let t = ring_parts r i (a ∷ more) st in
      let f : (a ∷ more) ++ [] ≡ t.1 ++ t.0 =
      least_start cmp o same dec g sg arcs all r i t.0 t.1 [] a more y z q t.3 t.2 e (subst (λ w. StartsLeast cmp arcs y z w) t.2 least) in
      subst (λ w. IsRingList cmp (JunctionOf g) arcs r w) (sym (sym (append-nil (a ∷ more)) ∙ f)) t.3
