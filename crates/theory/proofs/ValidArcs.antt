-- Arcs that stand are the arcs of the map that they make: its segments are in one arc each, once.
use Rattle.std.proofs.Common.{◌≡◌, ◌≤◌, List, [], ◌∷◌, ◌++◌, length, reverse, inl, inr, refl, sym, subst, arith}
use Rattle.std.proofs.lemmas.Cmp.{lists_total}
use Rattle.std.proofs.lemmas.List.{length-append}
use Rattle.std.specs.Cmp.{IsTotalOrder}
use Rattle.std.specs.Cmp.Lexicographic.{slice_cmp}
use Rattle.std.specs.FinMap.{IsAntisymmetric, slice_cmp-IsAntisymmetric}
use Rattle.std.specs.declared.cmp.Ordering.{Ordering}
use Rattle.std.specs.declared.cmp.Ordering.TheVariants.{Less}
use Rattle.theory.proofs.Ascending.{at_most_self, less_at_most, less_self}
use Rattle.theory.proofs.ClosedLists.{around_steps, closed_passes, closed_steps}
use Rattle.theory.proofs.CoveringChains.{covering_arcs}
use Rattle.theory.proofs.Lists.{last-snoc}
use Rattle.theory.proofs.ValidLists.{Has-snoc, Simple, Simple-Trail, middle_has, simple}
use Rattle.theory.specs.Arcs.{AreArcsOf}
use Rattle.theory.specs.Geometry.{AtMost, Geometry, IsChainOf, IsLineOf, IsRingOf, IsSound, JunctionOf, SegmentOf}
use Rattle.theory.specs.Junction.{SameVisit, Visits, pair}
use Rattle.theory.specs.LinesAndRings.{IsLine, IsRing, closed}
use Rattle.theory.specs.Lists.{Beside, Has, Passes}
use Rattle.theory.specs.Validity.{AreValidArcs}

module _ {V : Type 0} (cmp : V → V → Ordering) (o : IsTotalOrder cmp) (same : IsAntisymmetric cmp) (dec : (a b : V) → Dec (a ≡ b))
    (arcs : List (List V)) (a : Geometry V) (st : AreValidArcs cmp arcs a) where
  not_back : (c : List V) → Has c arcs → ¬ (c ≡ reverse c)
  not_back c h e = less_self (slice_cmp cmp) (lists_total o) (slice_cmp-IsAntisymmetric same) c (subst (λ w. slice_cmp cmp c w ≡ Less) (sym e) (st.forward c h))

  -- a vertex that is no junction is visited one way
  same_visit : (v p q s t : V) → ¬ JunctionOf a v → Visits (IsLineOf a) (IsRingOf a) v (pair p q) → Visits (IsLineOf a) (IsRingOf a) v (pair s t) →
      SameVisit (pair p q) (pair s t)
  same_visit v p q s t nj h k = elim (dec p s) [
    | yes e ↦ elim (dec q t) [ yes f ↦ inl (e, f) | no n ↦ cross (λ z. n z.1) ]
    | no n ↦ cross (λ z. n z.0)
  ]
    where
      other : ¬ ((p ≡ s) × (q ≡ t)) → ¬ ((p ≡ t) × (q ≡ s)) → SameVisit (pair p q) (pair s t)
      other n m = absurd (nj (inr (pair p q, pair s t, h, k, (λ z. elim z [ inl y ↦ n y | inr y ↦ m y ]))))

      cross : ¬ ((p ≡ s) × (q ≡ t)) → SameVisit (pair p q) (pair s t)
      cross n = elim (dec p t) [
        | yes e ↦ elim (dec q s) [ yes f ↦ inr (e, f) | no m ↦ other n (λ z. m z.1) ]
        | no m ↦ other n (λ z. m z.0)
      ]

  line_simple : (x : V) (r : List V) → IsLineOf a (x ∷ r) → Simple x r
  line_simple x r h =
      simple dec (JunctionOf a) x r (inl (x ∷ r, h, inl refl)) (inl (x ∷ r, h, inr refl)) (st.inner_free (x ∷ r) h)
      (λ p v q s t i j. same_visit v p q s t (st.inner_free (x ∷ r) h p v q i) (inl (x ∷ r, h, inl i)) (inl (x ∷ r, h, inl j)))
      (not_back (x ∷ r) (st.parted.lines (x ∷ r) h))

  ring_simple : (x : V) (l : List V) → IsRingOf a (x ∷ l) → Simple x (l ++ (x ∷ []))
  ring_simple x [] h = absurd (not_back (x ∷ (x ∷ [])) (st.parted.rings (x ∷ []) h) refl)
  ring_simple x (y ∷ l) h =
      simple dec (λ v. v ≡ x) x ((y ∷ l) ++ (x ∷ [])) refl (last-snoc x x (y ∷ l))
      (λ p v q i e. less_self cmp o same x (subst (λ w. cmp x w ≡ Less) e (st.first x (y ∷ l) h v (middle_has x p v q x (y ∷ l) i))))
      (λ p v q s t i j. same_visit v p q s t (st.free (x ∷ (y ∷ l)) h v (inr (middle_has x p v q x (y ∷ l) i))) (visit p v q i) (visit s v t j))
      (not_back (closed (x ∷ (y ∷ l))) (st.parted.rings (x ∷ (y ∷ l)) h))
    where
      visit : (p v q : V) → Passes p v q (closed (x ∷ (y ∷ l))) → Visits (IsLineOf a) (IsRingOf a) v (pair p q)
      visit p v q i = inr (x ∷ (y ∷ l), h, inl (closed_passes p v q x (y ∷ l) (omega arith) i))

  pub sound : IsSound a
  sound = record { lines = is_line; rings = is_ring }
    where
      is_line : (l : List V) → IsLineOf a l → IsLine l
      is_line [] h = absurd (not_back [] (st.parted.lines [] h) refl)
      is_line (x ∷ r) h =
          let s = line_simple x r h in
          let n : 1 ≤ length r = s.long in
          record { long = omega (arith, n); once = Simple-Trail x r s }

      is_ring : (r : List V) → IsRingOf a r → IsRing r
      is_ring [] h = absurd (not_back [] (st.parted.rings [] h) refl)
      is_ring (x ∷ l) h =
          let s = ring_simple x l h in
          let n : 3 ≤ length (l ++ (x ∷ [])) = s.closed_long (sym (last-snoc x x l)) in
          record { long = omega (arith, n, length-append l (x ∷ [])); once = Simple-Trail x (l ++ (x ∷ [])) s }

  line_chain : (l : List V) → IsLineOf a l → IsChainOf cmp a l
  line_chain [] h = absurd (not_back [] (st.parted.lines [] h) refl)
  line_chain (x ∷ r) h =
      let s = line_simple x r h in record {
        long = s.long;
        along = λ u v k. inl (x ∷ r, h, inl k);
        front_simple = s.front;
        rest_simple = s.rest;
        closed_long = s.closed_long;
        inner_free = st.inner_free (x ∷ r) h;
        ends = inl (inl (x ∷ r, h, inl refl), inl (x ∷ r, h, inr refl));
      }

  pub ring_chain : (r : List V) → IsRingOf a r → IsChainOf cmp a (closed r)
  ring_chain [] h = absurd (not_back [] (st.parted.rings [] h) refl)
  ring_chain (x ∷ l) h =
      let s = ring_simple x l h in
      let n : 3 ≤ length (x ∷ l) = (sound.rings (x ∷ l) h).long in
      let within : (v : V) → Has v (closed (x ∷ l)) → Has v (x ∷ l) =
      λ v k. elim k [ inl e ↦ inl e | inr m ↦ elim (Has-snoc v x l m) [ inl i ↦ inr i | inr e ↦ inl e ] ] in
      record {
        long = s.long;
        along = λ u v k. inr (x ∷ l, h, inl (closed_steps u v x l (omega (arith, n)) k));
        front_simple = s.front;
        rest_simple = s.rest;
        closed_long = s.closed_long;
        inner_free = λ u v w p. st.free (x ∷ l) h v (inr (middle_has x u v w x l p));
        ends = inr (
          sym (last-snoc x x l),
          (λ v k. st.free (x ∷ l) h v (within v k)),
          (λ v k. elim (within v k) [
            | inl e ↦ subst (λ w. AtMost cmp x w) (sym e) (at_most_self cmp o same x)
            | inr i ↦ less_at_most cmp o same x v (st.first x l h v i)
          ]),
        );
      }

  arc_chain : (c : List V) → Has c arcs → IsChainOf cmp a c
  arc_chain c h = elim (st.parted.each c h) [
    | inl k ↦ line_chain c k
    | inr k ↦ subst (IsChainOf cmp a) (sym k.1) (ring_chain k.0 k.2)
  ]

  covered : (u v : V) → SegmentOf a u v → (c : List V) × Has c arcs × Beside u v c
  covered u v (inl s) = (s.0, st.parted.lines s.0 s.1, s.2)
  covered u v (inr s) = (closed s.0, st.parted.rings s.0 s.1, elim s.2 [ inl k ↦ inl (around_steps u v s.0 k) | inr k ↦ inr (around_steps v u s.0 k) ])

  -- they are the arcs of their map
  pub are_arcs : AreArcsOf cmp a arcs
  are_arcs = covering_arcs cmp o same dec a sound arcs st.sorted st.forward arc_chain covered
