-- Where the list of a ring begins: of its used arcs, turned in any way, at that which starts least.
use Rattle.std.proofs.Common.{◌≡◌, ◌≤◌, List, [], ◌∷◌, ◌++◌, length, ◌⊎◌, inl, inr, refl, sym, ap, ◌∙◌, subst, arith, append_assoc, Some}
use Rattle.std.proofs.lemmas.Cmp.{tied_itself, lists_total}
use Rattle.std.proofs.lemmas.List.{append-nil}
use Rattle.std.specs.Cmp.Lexicographic.{slice_cmp}
use Rattle.std.specs.Cmp.{IsTotalOrder, on_total}
use Rattle.std.specs.FinMap.{IsAntisymmetric}
use Rattle.std.specs.Ordering.{is_gt, ordering_then}
use Rattle.std.specs.declared.cmp.Ordering.{Ordering}
use Rattle.theory.proofs.ArcNumbers.{taken_of, to_from}
use Rattle.theory.proofs.Ascending.{at_most_same, at_most_self, head_most}
use Rattle.theory.proofs.Chains.{same_chain}
use Rattle.theory.proofs.Lists.{Has-append_left, Has-append_right, Has-split, Has-swap, front_join, front-snoc, last_join}
use Rattle.theory.proofs.OneTopology.{along_chain, along_once}
use Rattle.theory.proofs.Pieces.{SegmentOf-flip, two_segments_of}
use Rattle.theory.proofs.RefinementLaws.{once}
use Rattle.theory.proofs.Turning.{least_list_found, rotation_listed, rotation_of}
use Rattle.theory.proofs.Rotations.{rotation_back, rotation_has, rotation_length, rotation_trail, rotation_trans}
use Rattle.theory.specs.ArcNumbers.{ArcRef, StartsLeast, StitchFrom, Uses, UsesOnce, along}
use Rattle.theory.specs.Arcs.{AreArcsOf}
use Rattle.theory.specs.Geometry.{AtMost, Geometry, IsChainOf, IsRingOf, IsSound, JunctionOf, SegmentOf}
use Rattle.theory.specs.LinesAndRings.{IsRotation}
use Rattle.theory.specs.Lists.{Has, front_of, last_of}
use Rattle.theory.specs.Refinement.{first_two, start_of, turned_used}
use Rattle.theory.specs.TopologyFunction.{rotations}
use Rattle.theory.specs.Seam.{IsTurned}
use Rattle.theory.specs.Topology.{IsRingList}

-- used arcs that stitch, parted
pub stitch_parts : {V : Type 0} (arcs : List (List V)) (x : V) (us vs : List ArcRef) (r : List V) → StitchFrom arcs x (us ++ vs) r →
    (q : List V) × (s : List V) × (r ≡ q ++ s) × StitchFrom arcs x us q × StitchFrom arcs (last_of x q) vs s
stitch_parts arcs x [] vs r h = ([], r, refl, refl, h)
stitch_parts arcs x (a ∷ us) vs r h =
    let t = stitch_parts arcs (last_of x h.0) us vs h.1 h.4 in (
      h.0 ++ t.0,
      t.1,
      h.3 ∙ ap (λ w. h.0 ++ w) t.2 ∙ sym (append_assoc h.0 t.0 t.1),
      (h.0, t.0, h.2, refl, t.3),
      subst (λ w. StitchFrom arcs w vs t.1) (sym (last_join x h.0 t.0)) t.4,
    )

-- a member that stands at one place of a list parts it in one way
one_parting : {A : Type 0} (a : A) (p s p' s' : List A) → ¬ Has a p' → ¬ Has a s' → p ++ (a ∷ s) ≡ p' ++ (a ∷ s') → (p ≡ p') × (s ≡ s')
one_parting a [] s [] s' np ns e = (refl, (let k : s ≡ s' = cc in k))
one_parting a (b ∷ p) s [] s' np ns e =
    let k : p ++ (a ∷ s) ≡ s' = cc in
    absurd (ns (subst (λ w. Has a w) k (Has-append_right a p (a ∷ s) (inl refl))))
one_parting a [] s (c ∷ p') s' np ns e = let k : a ≡ c = cc in absurd (np (inl k))
one_parting a (b ∷ p) s (c ∷ p') s' np ns e =
    let bc : b ≡ c = cc in
    let rest : p ++ (a ∷ s) ≡ p' ++ (a ∷ s') = cc in
    let t = one_parting a p s p' s' (λ h. np (inr h)) ns rest in
    (ap (λ w. w ∷ p) bc ∙ ap (λ w. c ∷ w) t.0, t.1)

pub Has-Uses : (a : ArcRef) (us : List ArcRef) → Has a us → Uses a.arc us
Has-Uses a [] h = h
Has-Uses a (b ∷ us) (inl e) = inl (ap (λ w. w.arc) e)
Has-Uses a (b ∷ us) (inr h) = inr (Has-Uses a us h)

-- the rotation of a closed list that begins where its first part ends
parted_rotation : {V : Type 0} (x : V) (l q : List V) (z : V) (s : List V) → l ++ (x ∷ []) ≡ q ++ (z ∷ s) → 1 ≤ length q →
    (m : List V) × IsRotation (x ∷ l) (last_of x q ∷ (z ∷ m))
parted_rotation x l [] z s e n = absurd (omega arith)
parted_rotation {V} x l (w ∷ q) z s e n =
    let y : V = last_of x (w ∷ q) in
    let whole : x ∷ l ≡ front_of x (w ∷ q) ++ front_of y (z ∷ s) =
    sym (front-snoc x x l) ∙ ap (λ t. front_of x t) e ∙ front_join x (w ∷ q) (z ∷ s) in
    go s e whole
  where
    far : {V : Type 0} (w x z : V) (l q : List V) → l ++ (x ∷ []) ≡ q ++ (z ∷ []) → x ≡ z
    far w x z [] [] e = cc
    far w x z [] (c ∷ []) e = absurd cc
    far w x z [] (c ∷ (d ∷ q)) e = absurd cc
    far w x z (b ∷ []) [] e = absurd cc
    far w x z (b ∷ (c ∷ l)) [] e = absurd cc
    far w x z (b ∷ l) (c ∷ q) e = far w x z l q (let k : l ++ (x ∷ []) ≡ q ++ (z ∷ []) = cc in k)

    go : (s : List V) → l ++ (x ∷ []) ≡ (w ∷ q) ++ (z ∷ s) → x ∷ l ≡ front_of x (w ∷ q) ++ front_of (last_of x (w ∷ q)) (z ∷ s) →
        (m : List V) × IsRotation (x ∷ l) (last_of x (w ∷ q) ∷ (z ∷ m))
    go [] e whole =
        let xz : x ≡ z = far w x z l (w ∷ q) e in
        (front_of w q, (front_of x (w ∷ q), last_of x (w ∷ q) ∷ [], whole, ap (λ t. last_of x (w ∷ q) ∷ (t ∷ front_of w q)) (sym xz)))
    go (c ∷ s) e whole = (front_of c s ++ front_of x (w ∷ q), (front_of x (w ∷ q), front_of (last_of x (w ∷ q)) (z ∷ (c ∷ s)), whole, refl))

module _ {V : Type 0} (cmp : V → V → Ordering) (o : IsTotalOrder cmp) (same : IsAntisymmetric cmp) (dec : (a b : V) → Dec (a ≡ b))
    (u : Geometry V) (su : IsSound u) (table : List (List V)) (all : AreArcsOf cmp u table) where
  le : (a b : V) → AtMost cmp a b → AtMost cmp b a → a ≡ b
  le = at_most_same cmp o same

  pub tail_most : (x : V) (l m : List V) → AtMost (slice_cmp cmp) (x ∷ l) (x ∷ m) → AtMost (slice_cmp cmp) l m
  tail_most x l m h = sym (ap (λ w. is_gt (ordering_then w (slice_cmp cmp l m))) (tied_itself o x)) ∙ h

  -- what is used goes on from its first vertex
  pub second : (a : ArcRef) (x : V) (r : List V) → along table a ≡ Some (x ∷ r) → (z : V) × (q : List V) × (r ≡ z ∷ q)
  second a x [] e =
      let k : IsChainOf cmp u (x ∷ []) = along_chain cmp o same dec u su table all a (x ∷ []) e in
      let n : 1 ≤ 0 = k.long in absurd (omega arith)
  second a x (z ∷ q) e = (z, q, refl)

  -- two used arcs with one first step are one
  pub one_start : (a b : ArcRef) (y z : V) (q s : List V) → along table a ≡ Some (y ∷ (z ∷ q)) → along table b ≡ Some (y ∷ (z ∷ s)) → a ≡ b
  one_start a b y z q s e f =
      let ka : IsChainOf cmp u (y ∷ (z ∷ q)) = along_chain cmp o same dec u su table all a (y ∷ (z ∷ q)) e in
      let kb : IsChainOf cmp u (y ∷ (z ∷ s)) = along_chain cmp o same dec u su table all b (y ∷ (z ∷ s)) f in
      let c : y ∷ (z ∷ q) ≡ y ∷ (z ∷ s) =
      same_chain (SegmentOf u) (JunctionOf u) (AtMost cmp) (SegmentOf-flip u su dec) (two_segments_of u su dec) le
      y (z ∷ q) ka y z s kb (inl (refl, refl)) in
      along_once cmp o same dec u su table all a b (y ∷ (z ∷ q)) e (f ∙ ap Some (sym c))

  -- from a junction on, used arcs end at junctions
  ends_at_junction : (x : V) (us : List ArcRef) (r : List V) → StitchFrom table x us r → JunctionOf u x → JunctionOf u (last_of x r)
  ends_at_junction x [] r h j = subst (λ w. JunctionOf u (last_of x w)) (sym h) j
  ends_at_junction x (a ∷ us) r h j =
      let k : IsChainOf cmp u (x ∷ h.0) = along_chain cmp o same dec u su table all a (x ∷ h.0) h.2 in
      let far : JunctionOf u (last_of x h.0) = (elim k.ends [ inl e ↦ e.1 | inr e ↦ absurd (e.1 x (inl refl) j) ]) in
      subst (λ w. JunctionOf u (last_of x w)) (sym h.3)
      (subst (JunctionOf u) (sym (last_join x h.0 h.1)) (ends_at_junction (last_of x h.0) us h.1 h.4 far))

  module _ (r : List V) (i : IsRingOf u r) (x : V) (l : List V) (turned : IsTurned cmp (JunctionOf u) r x l)
      (a0 : ArcRef) (rest : List ArcRef) (st : StitchFrom table x (a0 ∷ rest) (l ++ (x ∷ []))) where
    -- the second vertex of the ring, read from its seam
    next : (z : V) × (m : List V) × (l ≡ z ∷ m)
    next = go l refl
      where
        go : (k : List V) → l ≡ k → (z : V) × (m : List V) × (l ≡ z ∷ m)
        go [] e =
            let n : 3 ≤ length r = (su.rings r i).long in
            let f : length r ≡ length (x ∷ l) = rotation_length r (x ∷ l) turned.rotation in
            let g : length l ≡ 0 = ap length e in absurd (omega (arith, n, f, g))
        go (z ∷ m) e = (z, m, e)

    in_ring : (v : V) → Has v (x ∷ l) → Has v r
    in_ring v h = rotation_has (x ∷ l) r (rotation_back r (x ∷ l) turned.rotation) v h

    -- a used arc of the list begins at the seam, as the list does, or elsewhere on the ring
    start : (b : ArcRef) (y z : V) (q : List V) → Has b (a0 ∷ rest) → along table b ≡ Some (y ∷ (z ∷ q)) →
        (JunctionOf u x → JunctionOf u y) ×
        (((y ≡ x) × (z ≡ next.0)) ⊎ ((m : List V) × IsRotation (x ∷ l) (y ∷ (z ∷ m))))
    start b y z q h e =
        let t = Has-split b (a0 ∷ rest) h in
        let p = stitch_parts table x t.0 (b ∷ t.1) (l ++ (x ∷ [])) (subst (λ w. StitchFrom table x w (l ++ (x ∷ []))) t.2 st) in
        let f : Some (y ∷ (z ∷ q)) ≡ Some (last_of x p.0 ∷ p.4.0) = sym e ∙ p.4.2 in
        let yl : y ≡ last_of x p.0 = cc in
        let zq : z ∷ q ≡ p.4.0 = cc in
        let onward : p.1 ≡ z ∷ (q ++ p.4.1) = p.4.3 ∙ ap (λ w. w ++ p.4.1) (sym zq) in (
          (λ j. subst (JunctionOf u) (sym yl) (ends_at_junction x t.0 p.0 p.3 j)),
          index p.0 yl (q ++ p.4.1) (p.2 ∙ ap (λ w. p.0 ++ w) onward),
        )
      where
        index : (k : List V) → y ≡ last_of x k → (s : List V) → l ++ (x ∷ []) ≡ k ++ (z ∷ s) →
            ((y ≡ x) × (z ≡ next.0)) ⊎ ((m : List V) × IsRotation (x ∷ l) (y ∷ (z ∷ m)))
        index [] yl s e =
            let f : next.0 ∷ (next.1 ++ (x ∷ [])) ≡ z ∷ s = ap (λ w. w ++ (x ∷ [])) (sym next.2) ∙ e in
            let g : next.0 ≡ z = cc in inl (yl, sym g)
        index (w ∷ k) yl s e =
            let t = parted_rotation x l (w ∷ k) z s e (omega arith) in
            inr (t.0, subst (λ v. IsRotation (x ∷ l) (v ∷ (z ∷ t.0))) (sym yl) t.1)

    -- so none begins before it
    at_most_first : (b : ArcRef) (y z : V) (q : List V) → Has b (a0 ∷ rest) → along table b ≡ Some (y ∷ (z ∷ q)) → AtMost cmp x y
    at_most_first b y z q h e =
        let t = start b y z q h e in
        let there : Has y (x ∷ l) = (elim t.1 [
          | inl k ↦ inl k.0
          | inr k ↦ rotation_has (y ∷ (z ∷ k.0)) (x ∷ l) (rotation_back (x ∷ l) (y ∷ (z ∷ k.0)) k.1) y (inl refl)
        ]) in
        elim turned.seam [
          | inl s ↦ s.least y (in_ring y there) (t.0 s.has_it)
          | inr s ↦ s.1.least y (in_ring y there) tt
        ]

    at_most_second : (b : ArcRef) (y z : V) (q : List V) → Has b (a0 ∷ rest) → along table b ≡ Some (y ∷ (z ∷ q)) → y ≡ x → AtMost cmp next.0 z
    at_most_second b y z q h e yx =
        elim (start b y z q h e).1 [
          | inl k ↦ subst (λ w. AtMost cmp next.0 w) (sym k.1) (at_most_self cmp o same next.0)
          | inr k ↦
              let ro : IsRotation r (x ∷ (z ∷ k.0)) =
              rotation_trans r (x ∷ l) (x ∷ (z ∷ k.0)) turned.rotation (subst (λ w. IsRotation (x ∷ l) (w ∷ (z ∷ k.0))) yx k.1) in
              let m : AtMost (slice_cmp cmp) (next.0 ∷ next.1) (z ∷ k.0) =
              subst (λ w. AtMost (slice_cmp cmp) w (z ∷ k.0)) next.2 (tail_most x l (z ∷ k.0) (turned.least (z ∷ k.0) ro)) in
              head_most cmp next.0 z next.1 k.0 m
        ]

    -- the used arc that starts least is the first of the list
    least_is_first : (a : ArcRef) (y z : V) (q : List V) → Has a (a0 ∷ rest) → along table a ≡ Some (y ∷ (z ∷ q)) →
        StartsLeast cmp table y z (a0 ∷ rest) → a ≡ a0
    least_is_first a y z q h e least =
        let s = second a0 x st.0 st.2 in
        let along0 : along table a0 ≡ Some (x ∷ (s.0 ∷ s.1)) = st.2 ∙ ap (λ w. Some (x ∷ w)) s.2 in
        let yx : y ≡ x = le y x (least.first a0 x s.0 s.1 (inl refl) along0) (at_most_first a y z q h e) in
        let sn : s.0 ≡ next.0 = (elim (start a0 x s.0 s.1 (inl refl) along0).1 [
          | inl k ↦ k.1
          | inr k ↦ first_next s.0 s.1 s.2
        ]) in
        let zs : z ≡ s.0 =
        le z s.0 (least.second a0 x s.0 s.1 (inl refl) along0 (sym yx))
        (subst (λ w. AtMost cmp w z) (sym sn) (at_most_second a y z q h e yx)) in
        one_start a a0 x s.0 q s.1 (subst (λ w. along table a ≡ Some (x ∷ (w ∷ q))) zs (subst (λ w. along table a ≡ Some (w ∷ (z ∷ q))) yx e)) along0
      where
        first_next : (z : V) (q : List V) → st.0 ≡ z ∷ q → z ≡ next.0
        first_next z q e =
            let f : next.0 ∷ (next.1 ++ (x ∷ [])) ≡ z ∷ (q ++ st.1) =
            ap (λ w. w ++ (x ∷ [])) (sym next.2) ∙ st.3 ∙ ap (λ w. w ++ st.1) e in
            let g : next.0 ≡ z = cc in sym g

    -- no arc is used twice
    used_once : UsesOnce (a0 ∷ rest)
    used_once =
        let t = taken_of table x (a0 ∷ rest) (l ++ (x ∷ [])) st in
        once cmp o same dec u su table all (a0 ∷ rest) t.0 x (l ++ (x ∷ [])) t.1 t.2
        (rotation_trail r (x ∷ l) turned.rotation (su.rings r i).once)

  -- a list that is turned to its least start is the ring's
  pub least_start : (r : List V) → IsRingOf u r → (before behind before' : List ArcRef) (a : ArcRef) (more : List ArcRef) (y z : V) (q : List V) →
      IsRingList cmp (JunctionOf u) table r (behind ++ before) → before' ++ (a ∷ more) ≡ before ++ behind →
      along table a ≡ Some (y ∷ (z ∷ q)) → StartsLeast cmp table y z (before ++ behind) → (a ∷ more) ++ before' ≡ behind ++ before
  least_start r i before behind before' a more y z q list e al least = go (behind ++ before) refl list
    where
      swap : (v : ArcRef) (s t : List ArcRef) → Has v (s ++ t) → Has v (t ++ s)
      swap v s t h = Has-swap v t s h

      there : Has a (behind ++ before)
      there = swap a before behind (subst (λ w. Has a w) e (Has-append_right a before' (a ∷ more) (inl refl)))

      finish : (behind before : List ArcRef) → before' ++ (a ∷ more) ≡ before ++ behind → (a0 : ArcRef) (rest : List ArcRef) →
          behind ++ before ≡ a0 ∷ rest → a ≡ a0 → ¬ Has a rest → (a ∷ more) ++ before' ≡ behind ++ before
      finish [] before e a0 rest f aa n =
          let t = one_parting a before' more [] rest (λ h. h) n (e ∙ append-nil before ∙ f ∙ ap (λ w. w ∷ rest) (sym aa)) in
          ap (λ w. (a ∷ more) ++ w) t.0 ∙ append-nil (a ∷ more) ∙ ap (λ w. a ∷ w) t.1 ∙ ap (λ w. w ∷ rest) aa ∙ sym f
      finish (b ∷ bs) before e a0 rest f aa n =
          let ba : b ≡ a0 = cc in
          let br : bs ++ before ≡ rest = cc in
          let n' : ¬ Has a (bs ++ before) = λ h. n (subst (λ w. Has a w) br h) in
          let t = one_parting a before' more before bs (λ h. n' (Has-append_right a bs before h)) (λ h. n' (Has-append_left a bs before h))
          (e ∙ ap (λ w. before ++ (w ∷ bs)) (ba ∙ sym aa)) in
          ap (λ w. (a ∷ more) ++ w) t.0 ∙ ap (λ w. (a ∷ w) ++ before) t.1 ∙ ap (λ w. w ∷ (bs ++ before)) (aa ∙ sym ba)

      go : (us : List ArcRef) → behind ++ before ≡ us → IsRingList cmp (JunctionOf u) table r us → (a ∷ more) ++ before' ≡ behind ++ before
      go [] f k = absurd (subst (λ w. Has a w) f there)
      go (a0 ∷ rest) f k =
          let st : StitchFrom table k.0 (a0 ∷ rest) (k.1 ++ (k.0 ∷ [])) = k.3 in
          let least' : StartsLeast cmp table y z (a0 ∷ rest) = record {
            first = λ b v w s h. least.first b v w s (swap b behind before (subst (λ t. Has b t) (sym f) h));
            second = λ b v w s h. least.second b v w s (swap b behind before (subst (λ t. Has b t) (sym f) h));
          } in
          let aa : a ≡ a0 = least_is_first r i k.0 k.1 k.2 a0 rest st a y z q (subst (λ w. Has a w) f there) al least' in
          let once' = used_once r i k.0 k.1 k.2 a0 rest st in
          finish behind before e a0 rest f aa (λ h. once'.0 (Has-Uses a0 rest (subst (λ w. Has w rest) aa h)))

  -- a used arc of what stitches runs along a list of two or more
  pub runs : (us : List ArcRef) (x : V) (r : List V) → StitchFrom table x us r → (a : ArcRef) → Has a us →
      (y : V) × (z : V) × (q : List V) × (along table a ≡ Some (y ∷ (z ∷ q)))
  runs [] x r h a i = absurd i
  runs (b ∷ us) x r h a (inl e) =
      let s = second b x h.0 h.2 in
      (x, s.0, s.1, ap (λ w. along table w) e ∙ h.2 ∙ ap (λ w. Some (x ∷ w)) s.2)
  runs (b ∷ us) x r h a (inr i) = runs us (last_of x h.0) h.1 h.4 a i

  nothing : (s t : List ArcRef) → s ++ t ≡ [] → t ++ s ≡ []
  nothing [] [] e = refl
  nothing [] (x ∷ t) e = absurd cc
  nothing (x ∷ s) t e = absurd cc

  start_most : (us : List ArcRef) →
      ((l : List ArcRef) → Has l (rotations us) → Has (turned_used cmp table us) (rotations us) ×
      AtMost (λ a b. slice_cmp cmp (start_of table a) (start_of table b)) (turned_used cmp table us) l) →
      (a : ArcRef) (p s : List ArcRef) → turned_used cmp table us ≡ a ∷ (s ++ p) →
      (y z : V) (q : List V) → along table a ≡ Some (y ∷ (z ∷ q)) →
      (b : ArcRef) (v x : V) (k : List V) → Has b us → along table b ≡ Some (v ∷ (x ∷ k)) →
      AtMost (slice_cmp cmp) (y ∷ (z ∷ [])) (v ∷ (x ∷ []))
  start_most us best a p s e y z q f b v x k h g =
      let c = Has-split b us h in
      let listed = rotation_listed us b (c.1 ++ c.0) (c.0, b ∷ c.1, c.2, refl) in
      let m : AtMost (slice_cmp cmp) (start_of table (turned_used cmp table us)) (start_of table (b ∷ (c.1 ++ c.0))) = (best (b ∷ (c.1 ++ c.0)) listed).1 in
      let m' : AtMost (slice_cmp cmp) (first_two (along table a)) (first_two (along table b)) =
      subst (λ w. AtMost (slice_cmp cmp) (start_of table w) (first_two (along table b))) e m in
      subst (λ w. AtMost (slice_cmp cmp) (first_two w) (v ∷ (x ∷ []))) f
      (subst (λ w. AtMost (slice_cmp cmp) (first_two (along table a)) (first_two w)) g m')

  -- `turned_used` turns what is the list of a ring but for its beginning
  pub turned_used_is : (r : List V) → IsRingOf u r → (before behind : List ArcRef) → IsRingList cmp (JunctionOf u) table r (behind ++ before) →
      turned_used cmp table (before ++ behind) ≡ behind ++ before
  turned_used_is r i before behind list = go (before ++ behind) refl
    where
      all_run : (a : ArcRef) → Has a (before ++ behind) → (y : V) × (z : V) × (q : List V) × (along table a ≡ Some (y ∷ (z ∷ q)))
      all_run a h =
          runs (behind ++ before) list.0 (list.1 ++ (list.0 ∷ []))
          (to_from table (behind ++ before) list.0 (list.1 ++ (list.0 ∷ [])) list.3) a (Has-swap a behind before h)

      total : IsTotalOrder (λ (a b : List ArcRef). slice_cmp cmp (start_of table a) (start_of table b))
      total = on_total (start_of table) (lists_total o)

      go : (us : List ArcRef) → before ++ behind ≡ us → turned_used cmp table us ≡ behind ++ before
      go [] e =
          let none : behind ++ before ≡ [] = nothing before behind e in
          sym none
      go (w ∷ ws) e =
          let us : List ArcRef = w ∷ ws in
          let best = λ (l : List ArcRef) (h : Has l (rotations us)).
          least_list_found (λ a b. slice_cmp cmp (start_of table a) (start_of table b)) total (rotations us) l h in
          let here : Has us (rotations us) = rotation_listed us w ws ([], us, refl, sym (append-nil us)) in
          let t = rotation_of [] us (turned_used cmp table us) (best us here).0 in
          let a = t.0 in
          let there : Has a (before ++ behind) =
          subst (λ v. Has a v) (sym (e ∙ t.3)) (Has-append_right a t.1 (a ∷ t.2) (inl refl)) in
          let run = all_run a there in
          let least = λ (b : ArcRef) (v z : V) (s : List V) (h : Has b (before ++ behind)) (f : along table b ≡ Some (v ∷ (z ∷ s))).
          start_most us (best) t.0 t.1 t.2 t.4 run.0 run.1 run.2 run.3 b v z s (subst (λ k. Has b k) e h) f in
          t.4 ∙ least_start r i before behind t.1 a t.2 run.0 run.1 run.2 list (sym t.3 ∙ sym e) run.3
          (record {
            first = λ b v z s h f. head_most cmp run.0 v (run.1 ∷ []) (z ∷ []) (least b v z s h f);
            second = λ b v z s h f vy. head_most cmp run.1 z [] []
                (tail_most run.0 (run.1 ∷ []) (z ∷ []) (subst (λ k. AtMost (slice_cmp cmp) (run.0 ∷ (run.1 ∷ [])) (k ∷ (z ∷ []))) vy (least b v z s h f)));
          })
