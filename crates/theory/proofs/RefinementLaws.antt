-- What follows from a refinement: each new arc has one home, at one place.
use Rattle.std.proofs.Common.{◌≡◌, ◌≤◌, ℕ, zero, suc, Bool, true, false, cond, List, [], ◌∷◌, ◌++◌, length, reverse, ◌⊎◌, inl, inr, refl, sym, ◌∙◌, subst, arith, Option, Some, None, slice_get}
use Rattle.std.proofs.lemmas.List.{length-append}
use Rattle.std.specs.Cmp.{IsTotalOrder}
use Rattle.std.specs.FinMap.{IsAntisymmetric}
use Rattle.std.specs.declared.cmp.Ordering.{Ordering}
use Rattle.theory.proofs.ArcNumbers.{along_get, along_used, taken_of, to_from, uses_along}
use Rattle.theory.proofs.Ascending.{at_most_same}
use Rattle.theory.proofs.Chains.{Chain-Trail}
use Rattle.theory.proofs.ClosedLists.{closed_same}
use Rattle.theory.proofs.Lists.{last-snoc}
use Rattle.theory.proofs.ListsOfLists.{get_has}
use Rattle.theory.proofs.OneTopology.{along_chain, ring_list_unique, stitch_unique}
use Rattle.theory.proofs.Pieces.{SegmentOf-flip, two_segments_of}
use Rattle.theory.proofs.Reversing.{beside_same, same_beside}
use Rattle.theory.proofs.Rotations.{rotation_back, rotation_length, rotation_steps, rotation_trail}
use Rattle.theory.proofs.SegmentsOnce.{segments_once}
use Rattle.theory.proofs.Stitching.{beside_stitched, stitched_beside}
use Rattle.theory.specs.ArcNumbers.{ArcRef, AreTaken, Uses, UsesOnce}
use Rattle.theory.specs.Arcs.{AreArcsOf}
use Rattle.theory.specs.Geometry.{AtMost, Geometry, IsChainOf, IsLineOf, IsRingOf, IsSound, JunctionOf, SegmentOf}
use Rattle.theory.specs.Junction.{Visit, Visits, end, pair}
use Rattle.theory.specs.LinesAndRings.{Trail, closed}
use Rattle.theory.specs.Lists.{Beside, Pairwise, Steps, last_of}
use Rattle.theory.specs.Refinement.{ArePiecesOfArc, IsPartOf, IsRefinementOf, pieces_at}
use Rattle.theory.specs.Stitching.{Stitched}
use Rattle.theory.specs.Topology.{IsRingList}

-- at place i of both lists
pub pairwise_at : {A : Type 0} (R : A → List ArcRef → Type 0) (xs : List A) (ys : List (List ArcRef)) → Pairwise R xs ys →
    (i : ℕ) (x : A) → slice_get xs i ≡ Some x → R x (pieces_at ys i)
pairwise_at R [] ys p i x e = absurd cc
pairwise_at R (z ∷ xs) [] p i x e = absurd p
pairwise_at R (z ∷ xs) (y ∷ ys) p zero x e = let k : Some z ≡ Some x = e in subst (λ w. R w y) (let m : z ≡ x = cc in m) p.0
pairwise_at R (z ∷ xs) (y ∷ ys) p (suc i) x e = pairwise_at R xs ys p.1 i x e

pub pairwise_used : {A : Type 0} (R : A → List ArcRef → Type 0) (xs : List A) (ys : List (List ArcRef)) → Pairwise R xs ys →
    (i k : ℕ) → Uses k (pieces_at ys i) → (x : A) × (slice_get xs i ≡ Some x)
pairwise_used R [] [] p i k u = absurd u
pairwise_used R [] (y ∷ ys) p i k u = absurd p
pairwise_used R (z ∷ xs) [] p i k u = absurd u
pairwise_used R (z ∷ xs) (y ∷ ys) p zero k u = (z, refl)
pairwise_used R (z ∷ xs) (y ∷ ys) p (suc i) k u = pairwise_used R xs ys p.1 i k u

steps_far : {V : Type 0} (c d y : V) (q s : List V) → Steps c d (last_of y q ∷ s) → Steps c d (y ∷ (q ++ s))
steps_far c d y [] s h = h
steps_far c d y (z ∷ q) s h = inr (steps_far c d z q s h)

beside_far : {V : Type 0} (a b x y : V) (q s : List V) → a ≡ x → b ≡ y → Beside a b (last_of y q ∷ s) → Beside x y (y ∷ (q ++ s))
beside_far a b x y q s e f (inl k) = inl (steps_far x y y q s (subst (λ w. Steps w y (last_of y q ∷ s)) e (subst (λ w. Steps a w (last_of y q ∷ s)) f k)))
beside_far a b x y q s e f (inr k) = inr (steps_far y x y q s (subst (λ w. Steps w x (last_of y q ∷ s)) f (subst (λ w. Steps b w (last_of y q ∷ s)) e k)))

-- what stands on the one side of a parting does not on the other
steps_parts : {V : Type 0} (a b x : V) (q s : List V) → Trail (x ∷ (q ++ s)) → Steps a b (x ∷ q) → ¬ Beside a b (last_of x q ∷ s)
steps_parts a b x [] s t (inl h) k = h.1
steps_parts a b x [] s t (inr h) k = h
steps_parts a b x (y ∷ q) s t (inl h) k = (t.0 y refl).1 (beside_far a b x y q s h.0 h.1 k)
steps_parts a b x (y ∷ q) s t (inr h) k = steps_parts a b y q s t.1 h k

Trail-parts : {V : Type 0} (a b x : V) (q s : List V) → Trail (x ∷ (q ++ s)) → Beside a b (x ∷ q) → ¬ Beside a b (last_of x q ∷ s)
Trail-parts a b x q s t (inl h) k = steps_parts a b x q s t h k
Trail-parts a b x q s t (inr h) k = steps_parts b a x q s t h (elim k [ inl m ↦ inr m | inr m ↦ inl m ])

Trail-behind : {V : Type 0} (x : V) (q s : List V) → Trail (x ∷ (q ++ s)) → Trail (last_of x q ∷ s)
Trail-behind x [] s t = t
Trail-behind x (y ∷ q) s t = Trail-behind y q s t.1

module _ {V : Type 0} (cmp : V → V → Ordering) (o : IsTotalOrder cmp) (same : IsAntisymmetric cmp) (dec : (a b : V) → Dec (a ≡ b)) where
  pub same_le : (u v : V) → AtMost cmp u v → AtMost cmp v u → u ≡ v
  same_le = at_most_same cmp o same

  -- a map that is a part has no further segments and junctions
  module _ (g u : Geometry V) (part : IsPartOf g u) where
    pub part_segment : (a b : V) → SegmentOf g a b → SegmentOf u a b
    part_segment a b (inl h) = inl (h.0, part.lines h.0 h.1, h.2)
    part_segment a b (inr h) = inr (h.0, part.rings h.0 h.1, h.2)

    part_visit : (v : V) (p : Visit V) → Visits (IsLineOf g) (IsRingOf g) v p → Visits (IsLineOf u) (IsRingOf u) v p
    part_visit v end h = (h.0, part.lines h.0 h.1, h.2)
    part_visit v (pair a b) (inl h) = inl (h.0, part.lines h.0 h.1, h.2)
    part_visit v (pair a b) (inr h) = inr (h.0, part.rings h.0 h.1, h.2)

    pub part_junction : (v : V) → JunctionOf g v → JunctionOf u v
    part_junction v (inl e) = inl (part_visit v end e)
    part_junction v (inr (p, q, vp, vq, n)) = inr (p, q, part_visit v p vp, part_visit v q vq, n)

  -- the pieces of an arc are unique
  pub pieces_unique : (J : V → Type 0) (u : Geometry V) → IsSound u → (table : List (List V)) → AreArcsOf cmp u table → (c : List V) (us vs : List ArcRef) →
      ArePiecesOfArc cmp J (JunctionOf u) table c us → ArePiecesOfArc cmp J (JunctionOf u) table c vs → us ≡ vs
  pieces_unique J u su table all c us vs (inl h) (inl k) = stitch_unique cmp o same dec u su table all c us vs h.1 k.1
  pieces_unique J u su table all c us vs (inl h) (inr k) = absurd (h.0 k.2)
  pieces_unique J u su table all c us vs (inr h) (inl k) = absurd (k.0 h.2)
  pieces_unique J u su table all c us vs (inr h) (inr k) =
      let e : k.0 ≡ h.0 = closed_same k.0 h.0 (sym k.1 ∙ h.1) in
      ring_list_unique cmp o same dec u su table all h.0 us vs h.3 (subst (λ w. IsRingList cmp (JunctionOf u) table w vs) e k.3)

  -- what a used arc's pieces are, by the lists that they run along
  pub record Along (table : List (List V)) (c : List V) (used : List ArcRef) : Type 0 where
    pub lists : List (List V)
    pub first : V
    pub rest : List V
    pub taken : AreTaken table used lists
    pub stitched : Stitched first lists rest
    pub trail : Trail (first ∷ rest)
    pub onto : (a b : V) → Beside a b c → Beside a b (first ∷ rest)
    pub back : (a b : V) → Beside a b (first ∷ rest) → Beside a b c

  both : (a b : V) (c d : List V) → ((a b : V) → Steps a b c → Steps a b d) → Beside a b c → Beside a b d
  both a b c d f (inl h) = inl (f a b h)
  both a b c d f (inr h) = inr (f b a h)

  module _ (g : Geometry V) (sg : IsSound g) (u : Geometry V) (table : List (List V)) where
    pub chain_trail : (c : List V) → IsChainOf cmp g c → Trail c
    chain_trail [] k = absurd k
    chain_trail (x ∷ r) k = Chain-Trail (SegmentOf g) (JunctionOf g) (AtMost cmp) (SegmentOf-flip g sg dec) (two_segments_of g sg dec) same_le x r k

    loop_long : (p : V) (q : List V) → IsChainOf cmp g (closed (p ∷ q)) → 2 ≤ length q
    loop_long p q k =
        let n : 3 ≤ length (q ++ (p ∷ [])) = k.closed_long (sym (last-snoc p p q)) in
        omega (arith, n, length-append q (p ∷ []))

    pub along_pieces : (c : List V) (used : List ArcRef) → IsChainOf cmp g c → ArePiecesOfArc cmp (JunctionOf g) (JunctionOf u) table c used → Along table c used
    along_pieces [] used k h = absurd k
    along_pieces (x ∷ r) used k (inl h) =
        let t = taken_of table x used r (to_from table used x r h.1) in
        record { lists = t.0; first = x; rest = r; taken = t.1; stitched = t.2; trail = chain_trail (x ∷ r) k; onto = λ a b s. s; back = λ a b s. s }
    along_pieces (x ∷ r) used k (inr (loop, e, free, list)) = go loop e list
      where
        go : (loop : List V) → x ∷ r ≡ closed loop → IsRingList cmp (JunctionOf u) table loop used → Along table (x ∷ r) used
        go [] e list = absurd cc
        go (p ∷ q) e (y, l, turned, stitch) =
            let rest : List V = l ++ (y ∷ []) in
            let t = taken_of table y used rest (to_from table used y rest stitch) in
            let n : 2 ≤ length q = loop_long p q (subst (IsChainOf cmp g) e k) in
            let m : length (p ∷ q) ≡ length (y ∷ l) = rotation_length (p ∷ q) (y ∷ l) turned.rotation in
            let m' : 1 ≤ length l = omega (arith, n, m) in
            record {
              lists = t.0;
              first = y;
              rest = rest;
              taken = t.1;
              stitched = t.2;
              trail = rotation_trail (p ∷ q) (y ∷ l) turned.rotation (subst Trail e (chain_trail (x ∷ r) k));
              onto = λ a b s. both a b (closed (p ∷ q)) (closed (y ∷ l)) (rotation_steps p q y l (omega (arith, n)) turned.rotation) (subst (λ w. Beside a b w) e s);
              back = λ a b s. subst (λ w. Beside a b w) (sym e)
                  (both a b (closed (y ∷ l)) (closed (p ∷ q)) (rotation_steps y l p q m' (rotation_back (p ∷ q) (y ∷ l) turned.rotation)) s);
            }

  module _ (u : Geometry V) (su : IsSound u) (table : List (List V)) (all : AreArcsOf cmp u table) where
    pub chain_side : (c : List V) → IsChainOf cmp u c → (a : V) × (b : V) × Beside a b c
    chain_side [] k = absurd k
    chain_side (x ∷ []) k = let n : 1 ≤ 0 = k.long in absurd (omega arith)
    chain_side (x ∷ (y ∷ r)) k = (x, y, inl (inl (refl, refl)))

    -- along a trail no arc is used twice
    pub once : (used : List ArcRef) (cs : List (List V)) (x : V) (r : List V) → AreTaken table used cs → Stitched x cs r → Trail (x ∷ r) → UsesOnce used
    once [] cs x r t s tr = tt
    once (a ∷ used) [] x r t s tr = absurd t
    once (a ∷ used) (c ∷ cs) x r t s tr =
        let tr' : Trail (x ∷ (s.0 ++ s.1)) = subst (λ w. Trail (x ∷ w)) s.3 tr in (
          (λ k.
              let p = uses_along table used cs t.1 a.arc k in
              let q = uses_along table (a ∷ used) (c ∷ cs) t a.arc (inl refl) in
              let f = along_get table a c t.0 in
              let ck : IsChainOf cmp u c = along_chain cmp o same dec u su table all a c t.0 in
              let e = chain_side c ck in
              let pd : Beside e.0 e.1 p.0 =
              beside_same e.0 e.1 p.0 p.2 p.4
              (same_beside e.0 e.1 c p.2
              (subst (λ w. (c ≡ w) ⊎ (c ≡ reverse w)) (let z : Some f.0 ≡ Some p.2 = sym f.1 ∙ p.3 in cc) (by_ref a.reversed f.0 f.2)) e.2) in
              Trail-parts e.0 e.1 x s.0 s.1 tr' (subst (λ w. Beside e.0 e.1 w) s.2 e.2)
              (beside_stitched e.0 e.1 (last_of x s.0) cs s.1 s.4 p.0 p.1 pd)),
          once used cs (last_of x s.0) s.1 t.1 s.4 (Trail-behind x s.0 s.1 tr'),
        )
      where
        by_ref : (b : Bool) (d : List V) → c ≡ cond b (reverse d) d → (c ≡ d) ⊎ (c ≡ reverse d)
        by_ref false d e = inl e
        by_ref true d e = inr e

    module _ (g : Geometry V) (sg : IsSound g) (part : IsPartOf g u) (arcs : List (List V)) (pieces : List (List ArcRef))
        (ref : IsRefinementOf cmp g u arcs table pieces) where
      cut_at : (i : ℕ) (c : List V) → slice_get arcs i ≡ Some c → Along table c (pieces_at pieces i)
      cut_at i c e =
          along_pieces g sg u table c (pieces_at pieces i) (ref.old.arcs_only c (get_has arcs i c e)).chain
          (pairwise_at (ArePiecesOfArc cmp (JunctionOf g) (JunctionOf u) table) arcs pieces ref.cut i c e)

      pub inside : (k i : ℕ) (c d : List V) → slice_get arcs i ≡ Some c → slice_get table k ≡ Some d → Uses k (pieces_at pieces i) →
          (v w : V) → Beside v w d → Beside v w c
      inside k i c d e f h v w b =
          let a = cut_at i c e in
          let p = uses_along table (pieces_at pieces i) a.lists a.taken k h in
          let q : p.2 ≡ d = (let z : Some p.2 ≡ Some d = sym p.3 ∙ f in cc) in
          a.back v w (beside_stitched v w a.first a.lists a.rest a.stitched p.0 p.1
          (beside_same v w p.0 p.2 p.4 (subst (λ z. Beside v w z) (sym q) b)))

      pub home : (k : ℕ) (d : List V) (a b : V) → slice_get table k ≡ Some d → Beside a b d → SegmentOf g a b →
          (i : ℕ) × (c : List V) × (slice_get arcs i ≡ Some c) × Uses k (pieces_at pieces i) × ((v w : V) → Beside v w d → Beside v w c)
      home k d a b f h s =
          let t = (segments_once cmp o same dec g sg arcs ref.old).in_an_arc a b s in
          let l = cut_at t.0 t.1 t.2 in
          let p = stitched_beside a b l.first l.lists l.rest l.stitched (l.onto a b t.3) in
          let m = along_used table (pieces_at pieces t.0) l.lists l.taken p.0 p.1 in
          let n : m.0 ≡ k = (segments_once cmp o same dec u su table all).one_arc a b m.0 k m.2 d m.3 f (same_beside a b p.0 m.2 m.4 p.2) h in
          let us : Uses k (pieces_at pieces t.0) = subst (λ w. Uses w (pieces_at pieces t.0)) n m.1 in
          (t.0, t.1, t.2, us, inside k t.0 t.1 d t.2 f us)

      pub one_home : (k i j : ℕ) → Uses k (pieces_at pieces i) → Uses k (pieces_at pieces j) → i ≡ j
      one_home k i j h h' =
          let c = pairwise_used (ArePiecesOfArc cmp (JunctionOf g) (JunctionOf u) table) arcs pieces ref.cut i k h in
          let c' = pairwise_used (ArePiecesOfArc cmp (JunctionOf g) (JunctionOf u) table) arcs pieces ref.cut j k h' in
          let l = cut_at i c.0 c.1 in
          let p = uses_along table (pieces_at pieces i) l.lists l.taken k h in
          let e = chain_side p.2 (all.arcs_only p.2 (get_has table k p.2 p.3)).chain in
          (segments_once cmp o same dec g sg arcs ref.old).one_arc e.0 e.1 i j c.0 c'.0 c.1 c'.1
          (inside k i c.0 p.2 c.1 p.3 h e.0 e.1 e.2) (inside k j c'.0 p.2 c'.1 p.3 h' e.0 e.1 e.2)

      pub one_place : (i : ℕ) → UsesOnce (pieces_at pieces i)
      one_place i = go (slice_get arcs i) refl
        where
          go : (x : Option (List V)) → slice_get arcs i ≡ x → UsesOnce (pieces_at pieces i)
          go (Some c) e = let l = cut_at i c e in once (pieces_at pieces i) l.lists l.first l.rest l.taken l.stitched l.trail
          go None e = none (pieces_at pieces i) refl
            where
              none : (ps : List ArcRef) → pieces_at pieces i ≡ ps → UsesOnce ps
              none [] p = tt
              none (a ∷ ps) p =
                  let t = pairwise_used (ArePiecesOfArc cmp (JunctionOf g) (JunctionOf u) table) arcs pieces ref.cut i a.arc
                  (subst (λ w. Uses a.arc w) (sym p) (inl refl)) in
                  absurd (let z : None ≡ Some t.0 = sym e ∙ t.1 in cc)
