-- A list of used arcs that stitches to a ring from one junction, turned to begin at its seam.
use Rattle.std.proofs.Common.{◌≡◌, List, [], ◌∷◌, ◌++◌, inl, inr, refl, sym, ap, ◌∙◌, subst, arith, append_assoc}
use Rattle.std.proofs.lemmas.List.{append-nil, length-append}
use Rattle.std.specs.Cmp.{IsTotalOrder}
use Rattle.std.specs.FinMap.{IsAntisymmetric}
use Rattle.std.specs.declared.cmp.Ordering.{Ordering}
use Rattle.theory.proofs.ArcNumbers.{from_to, taken_join, taken_of, taken_stitch}
use Rattle.theory.proofs.ArcsOfMap.{ring_is_cut}
use Rattle.theory.proofs.ChainLists.{chains_meet}
use Rattle.theory.proofs.Lists.{Has-append_right, last-snoc, last_join}
use Rattle.theory.proofs.OneTopology.{along_chain}
use Rattle.theory.proofs.Pieces.{SegmentOf-flip, two_segments_of}
use Rattle.theory.proofs.RefinementLaws.{same_le}
use Rattle.theory.proofs.Rotations.{rotation_back, rotation_has, rotation_trans}
use Rattle.theory.proofs.Stitching.{stitched_join}
use Rattle.theory.specs.ArcNumbers.{ArcRef, AreTaken, StitchFrom}
use Rattle.theory.specs.Arcs.{AreArcsOf}
use Rattle.theory.specs.Geometry.{AtMost, Geometry, IsChainOf, IsRingOf, IsSound, JunctionOf, SegmentOf}
use Rattle.theory.specs.LinesAndRings.{IsRotation}
use Rattle.theory.specs.Lists.{Distinct, Each, Has, last_of}
use Rattle.theory.specs.Seam.{IsTurned}
use Rattle.theory.specs.Stitching.{Stitched}
use Rattle.theory.specs.Topology.{IsRingList}

taken_parts : {V : Type 0} (arcs : List (List V)) (us : List ArcRef) (cs ds : List (List V)) → AreTaken arcs us (cs ++ ds) →
    (vs : List ArcRef) × (ws : List ArcRef) × (us ≡ vs ++ ws) × AreTaken arcs vs cs × AreTaken arcs ws ds
taken_parts arcs us [] ds h = ([], us, refl, tt, h)
taken_parts arcs [] (c ∷ cs) ds h = absurd h
taken_parts arcs (u ∷ us) (c ∷ cs) ds h =
    let t = taken_parts arcs us cs ds h.1 in
    (u ∷ t.0, t.1, ap (λ w. u ∷ w) t.2, (h.0, t.3), t.4)

-- a rotation, parted before its first vertex
pub rotation_at : {V : Type 0} (r : List V) (x : V) (l : List V) → IsRotation r (x ∷ l) → (s : List V) × (t : List V) × (r ≡ s ++ (x ∷ t)) × (l ≡ t ++ s)
rotation_at r x l (s, [], e, f) = ([], l, e ∙ append-nil s ∙ sym f, sym (append-nil l))
rotation_at r x l (s, y ∷ t, e, f) =
    let a : y ≡ x = cc in
    let b : l ≡ t ++ s = cc in
    (s, t, subst (λ w. r ≡ s ++ (w ∷ t)) a e, b)

-- a list with no vertex twice has one rotation that begins at a vertex
pub one_rotation : {V : Type 0} (y : V) (l m : List V) → Distinct (y ∷ l) → IsRotation (y ∷ l) (y ∷ m) → m ≡ l
one_rotation {V} y l m d r = go (rotation_at (y ∷ l) y m r)
  where
    go : (s : List V) × (t : List V) × (y ∷ l ≡ s ++ (y ∷ t)) × (m ≡ t ++ s) → m ≡ l
    go ([], t, e, f) = let k : l ≡ t = cc in f ∙ append-nil t ∙ sym k
    go (z ∷ s, t, e, f) =
        let k : l ≡ s ++ (y ∷ t) = cc in
        absurd (d.0 (subst (λ w. Has y w) (sym k) (Has-append_right y s (y ∷ t) (inl refl))))

module _ {V : Type 0} (cmp : V → V → Ordering) (o : IsTotalOrder cmp) (same : IsAntisymmetric cmp) (dec : (a b : V) → Dec (a ≡ b))
    (u : Geometry V) (su : IsSound u) (table : List (List V)) (all : AreArcsOf cmp u table) where
  le : (a b : V) → AtMost cmp a b → AtMost cmp b a → a ≡ b
  le = same_le cmp o same dec

  taken_chains : (us : List ArcRef) (cs : List (List V)) → AreTaken table us cs → Each (IsChainOf cmp u) cs
  taken_chains [] [] h = tt
  taken_chains [] (c ∷ cs) h = absurd h
  taken_chains (a ∷ us) [] h = absurd h
  taken_chains (a ∷ us) (c ∷ cs) h = (along_chain cmp o same dec u su table all a c h.0, taken_chains us cs h.1)

  -- a closed list, begun at another of its vertices
  started : (x y : V) (l m : List V) → IsRotation (x ∷ l) (y ∷ m) →
      (q : List V) × (s : List V) × (l ++ (x ∷ []) ≡ q ++ s) × (last_of x q ≡ y) × (m ++ (y ∷ []) ≡ s ++ q)
  started x y l m r = go (rotation_at (x ∷ l) y m r)
    where
      go : (s : List V) × (t : List V) × (x ∷ l ≡ s ++ (y ∷ t)) × (m ≡ t ++ s) →
          (q : List V) × (s : List V) × (l ++ (x ∷ []) ≡ q ++ s) × (last_of x q ≡ y) × (m ++ (y ∷ []) ≡ s ++ q)
      go ([], t, e, f) =
          let a : x ≡ y = cc in
          let b : l ≡ t = cc in
          ([], l ++ (x ∷ []), refl, a, ap (λ w. m ++ (w ∷ [])) (sym a) ∙ ap (λ w. w ++ (x ∷ [])) (f ∙ append-nil t ∙ sym b) ∙ sym (append-nil (l ++ (x ∷ []))))
      go (z ∷ s, t, e, f) =
          let a : z ≡ x = cc in
          let b : l ≡ s ++ (y ∷ t) = cc in (
            s ++ (y ∷ []),
            t ++ (x ∷ []),
            ap (λ w. w ++ (x ∷ [])) b ∙ append_assoc s (y ∷ t) (x ∷ []) ∙ sym (append_assoc s (y ∷ []) (t ++ (x ∷ []))),
            last-snoc x y s,
            ap (λ w. w ++ (y ∷ [])) (f ∙ ap (λ w. t ++ (w ∷ s)) a) ∙ append_assoc t (x ∷ s) (y ∷ []) ∙ sym (append_assoc t (x ∷ []) (s ++ (y ∷ []))),
          )

  -- a list that stitches to a ring from one junction, turned to its seam
  pub turn_list : (r : List V) (x : V) (l : List V) (us : List ArcRef) → IsRingOf u r → IsRotation r (x ∷ l) → JunctionOf u x →
      StitchFrom table x us (l ++ (x ∷ [])) →
      (before : List ArcRef) × (behind : List ArcRef) × (us ≡ before ++ behind) × IsRingList cmp (JunctionOf u) table r (behind ++ before)
  turn_list r x l us i ro j h =
      let t = (ring_is_cut cmp o same dec u su r i).turning in
      let y : V = t.first in
      let m : List V = t.behind ++ t.before in
      let turned : IsTurned cmp (JunctionOf u) r y m = record { rotation = (t.before, y ∷ t.behind, t.parted, refl); seam = t.seam; least = t.least } in
      let jy : JunctionOf u y = (elim t.seam [
        | inl k ↦ k.has_it
        | inr k ↦ absurd (k.0 x (rotation_has (x ∷ l) r (rotation_back r (x ∷ l) ro) x (inl refl)) j)
      ]) in
      let b = started x y l m (rotation_trans (x ∷ l) r (y ∷ m) (rotation_back r (x ∷ l) ro) turned.rotation) in
      let c = taken_of table x us (l ++ (x ∷ [])) h in
      let p = chains_meet (SegmentOf u) (JunctionOf u) (AtMost cmp) (SegmentOf-flip u su dec) (two_segments_of u su dec) le x c.0 b.0 b.1 (taken_chains us c.0 c.1)
      (subst (λ w. Stitched x c.0 w) b.2 c.2) (subst (JunctionOf u) (sym b.3) jy) in
      let v = taken_parts table us p.0 p.1 (subst (AreTaken table us) p.2 c.1) in
      let round : last_of (last_of x b.0) b.1 ≡ x = sym (last_join x b.0 b.1) ∙ ap (λ w. last_of x w) (sym b.2) ∙ last-snoc x x l in
      let st : Stitched (last_of x b.0) (p.1 ++ p.0) (b.1 ++ b.0) =
      stitched_join (last_of x b.0) p.1 p.0 b.1 b.0 p.4 (subst (λ w. Stitched w p.0 b.0) (sym round) p.3) in
      let st' : Stitched y (p.1 ++ p.0) (m ++ (y ∷ [])) =
      subst (λ w. Stitched y (p.1 ++ p.0) w) (sym b.4) (subst (λ w. Stitched w (p.1 ++ p.0) (b.1 ++ b.0)) b.3 st) in (
        v.0,
        v.1,
        v.2,
        (
          y,
          m,
          turned,
          from_to table (v.1 ++ v.0) y (m ++ (y ∷ [])) (simp length-append (omega arith))
              (taken_stitch table (v.1 ++ v.0) (p.1 ++ p.0) y (m ++ (y ∷ [])) (taken_join table v.1 v.0 p.1 p.0 v.4 v.3) st'),
        ),
      )
