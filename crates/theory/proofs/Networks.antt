-- The segments and junctions of a map are a network, with the map's chains.
use Rattle.std.proofs.Common.{◌≡◌, List, [], ◌∷◌, ◌++◌, inl, inr, refl, sym, ap, subst, ◌↔◌}
use Rattle.std.specs.Cmp.{IsTotalOrder}
use Rattle.std.specs.FinMap.{IsAntisymmetric}
use Rattle.std.specs.declared.cmp.Ordering.{Ordering}
use Rattle.theory.proofs.Chains.{IsChain-same}
use Rattle.theory.proofs.JunctionTest.{junction_means, is_answered}
use Rattle.theory.proofs.Lists.{Has-append, Has-append_left, Has-append_right, Passes-before, Steps-right}
use Rattle.theory.proofs.ListsOfLists.{Has-gathered, gathered_from, Has-joined}
use Rattle.theory.proofs.Pieces.{SegmentOf-flip, SegmentOf-apart, two_segments_of}
use Rattle.theory.proofs.Turning.{keep_has, has_keep}
use Rattle.theory.specs.Geometry.{Geometry, IsLineOf, IsRingOf, IsSound, AtMost, SegmentOf, JunctionOf, IsChainOf}
use Rattle.theory.specs.Junction.{Visits, Visit, end, pair}
use Rattle.theory.specs.LinesAndRings.{around}
use Rattle.theory.specs.Lists.{Has, Steps, Between, EndOf, last_of, gathered, joined}
use Rattle.theory.specs.Network.{Network, Joins, IsStop, IsNetwork, IsChainIn, IsNetworkOf, pairs_in, network_of}
use Rattle.theory.specs.TopologyFunction.{is_junction}

pub Joins-flip : {V : Type 0} (n : Network V) (u v : V) → Joins n u v → Joins n v u
Joins-flip n u v (inl h) = inr h
Joins-flip n u v (inr h) = inl h

Steps-pairs_in : {V : Type 0} (u v : V) (l : List V) → Steps u v l → Has {V = V × V} (u, v) (pairs_in l)
Steps-pairs_in u v [] h = absurd h
Steps-pairs_in u v (x ∷ []) (inl h) = absurd h.1
Steps-pairs_in u v (x ∷ []) (inr h) = absurd h
Steps-pairs_in u v (x ∷ (y ∷ r)) (inl h) = inl (λ i. (h.0 i, h.1 i))
Steps-pairs_in u v (x ∷ (y ∷ r)) (inr h) = inr (Steps-pairs_in u v (y ∷ r) h)

pairs_in-Steps : {V : Type 0} (u v : V) (l : List V) → Has {V = V × V} (u, v) (pairs_in l) → Steps u v l
pairs_in-Steps u v [] h = absurd h
pairs_in-Steps u v (x ∷ []) h = absurd h
pairs_in-Steps u v (x ∷ (y ∷ r)) (inl e) = inl (ap (λ w. w.0) e, ap (λ w. w.1) e)
pairs_in-Steps u v (x ∷ (y ∷ r)) (inr h) = inr (pairs_in-Steps u v (y ∷ r) h)

last_of-Has : {V : Type 0} (x : V) (r : List V) → Has (last_of x r) (x ∷ r)
last_of-Has x [] = inl refl
last_of-Has x (y ∷ r) = inr (last_of-Has y r)

around-Has : {V : Type 0} (v : V) (r : List V) → Has v (around r) → Has v r
around-Has v [] h = absurd h
around-Has v (x ∷ []) h = absurd h
around-Has v (x ∷ (y ∷ r)) (inl e) = inl e
around-Has v (x ∷ (y ∷ r)) (inr (inl e)) = inr (inl e)
around-Has v (x ∷ (y ∷ r)) (inr (inr h)) =
    elim (Has-append v r (x ∷ (y ∷ [])) h) [
      | inl k ↦ inr (inr k)
      | inr (inl e) ↦ inl e
      | inr (inr (inl e)) ↦ inr (inl e)
      | inr (inr (inr z)) ↦ absurd z
    ]

Between-Has : {V : Type 0} (a v b : V) (l : List V) → Between a v b l → Has v l
Between-Has a v b l (inl h) = Steps-right a v l (Passes-before a v b l h)
Between-Has a v b l (inr h) = Steps-right b v l (Passes-before b v a l h)

EndOf-Has : {V : Type 0} (v : V) (l : List V) → EndOf v l → Has v l
EndOf-Has v [] h = absurd h
EndOf-Has v (x ∷ r) (inl e) = inl e
EndOf-Has v (x ∷ r) (inr e) = subst (λ w. Has w (x ∷ r)) (sym e) (last_of-Has x r)

module _ {V : Type 0} (cmp : V → V → Ordering) (o : IsTotalOrder cmp) (same : IsAntisymmetric cmp) (dec : (a b : V) → Dec (a ≡ b))
    (g : Geometry V) (sound : IsSound g) where
  step_of : (u v : V) → Has {V = V × V} (u, v) (network_of cmp g).segments → SegmentOf g u v
  step_of u v h =
      elim (Has-append {V = V × V} (u, v) (gathered pairs_in g.lines) (gathered (λ r. pairs_in (around r)) g.rings) h) [
        | inl k ↦ (let t = gathered_from {B = V × V} pairs_in g.lines (u, v) k in inl (t.0, t.1, inl (pairs_in-Steps u v t.0 t.2)))
        | inr k ↦ (let t = gathered_from {B = V × V} (λ r. pairs_in (around r)) g.rings (u, v) k in inr (t.0, t.1, inl (pairs_in-Steps u v (around t.0) t.2)))
      ]

  of_line : (u v : V) (l : List V) → IsLineOf g l → Steps u v l → Has {V = V × V} (u, v) (network_of cmp g).segments
  of_line u v l i s =
      Has-append_left {V = V × V} (u, v) (gathered pairs_in g.lines) (gathered (λ r. pairs_in (around r)) g.rings)
      (Has-gathered {B = V × V} pairs_in g.lines l (u, v) i (Steps-pairs_in u v l s))

  of_ring : (u v : V) (r : List V) → IsRingOf g r → Steps u v (around r) → Has {V = V × V} (u, v) (network_of cmp g).segments
  of_ring u v r i s =
      Has-append_right {V = V × V} (u, v) (gathered pairs_in g.lines) (gathered (λ r. pairs_in (around r)) g.rings)
      (Has-gathered {B = V × V} (λ r. pairs_in (around r)) g.rings r (u, v) i (Steps-pairs_in u v (around r) s))

  joined_segment : (u v : V) → Joins (network_of cmp g) u v → SegmentOf g u v
  joined_segment u v (inl h) = step_of u v h
  joined_segment u v (inr h) = SegmentOf-flip g sound dec v u (step_of v u h)

  segment_joined : (u v : V) → SegmentOf g u v → Joins (network_of cmp g) u v
  segment_joined u v (inl (l, i, inl s)) = inl (of_line u v l i s)
  segment_joined u v (inl (l, i, inr s)) = inr (of_line v u l i s)
  segment_joined u v (inr (r, i, inl s)) = inl (of_ring u v r i s)
  segment_joined u v (inr (r, i, inr s)) = inr (of_ring v u r i s)

  -- each vertex that is visited stands on a line or a ring
  visited : (v : V) (p : Visit V) → Visits (IsLineOf g) (IsRingOf g) v p → Has v (joined g.lines ++ joined g.rings)
  visited v end h = Has-append_left v (joined g.lines) (joined g.rings) (Has-joined g.lines h.0 v h.1 (EndOf-Has v h.0 h.2))
  visited v (pair a b) (inl h) = Has-append_left v (joined g.lines) (joined g.rings) (Has-joined g.lines h.0 v h.1 (Between-Has a v b h.0 h.2))
  visited v (pair a b) (inr h) =
      Has-append_right v (joined g.lines) (joined g.rings) (Has-joined g.rings h.0 v h.1 (around-Has v h.0 (Between-Has a v b (around h.0) h.2)))

  junction_there : (v : V) → JunctionOf g v → Has v (joined g.lines ++ joined g.rings)
  junction_there v (inl h) = visited v end h
  junction_there v (inr (p, q, vp, vq, n)) = visited v p vp

  pub network_has : IsNetworkOf (network_of cmp g) g
  network_has = record {
    segments = λ u v. (joined_segment u v, segment_joined u v);
    stops = λ v. (
      (λ h. junction_means cmp o same g v (keep_has (is_junction cmp g) (joined g.lines ++ joined g.rings) v h).1),
      (λ j. has_keep (is_junction cmp g) (joined g.lines ++ joined g.rings) v (junction_there v j) (is_answered cmp o same g v j)),
    );
  }

  module _ (n : Network V) (of : IsNetworkOf n g) where
    pub is_network : IsNetwork n
    is_network = record {
      apart = λ u h. SegmentOf-apart g sound dec u ((of.segments u u).0 h);
      two = λ v w j s.
          let t = two_segments_of g sound dec v w (λ k. j ((of.stops v).1 k)) ((of.segments v w).0 s) in
          (t.0, t.1, t.2, (of.segments v t.0).1 t.3, (of.segments v t.1).1 t.4, λ c k. t.5 c ((of.segments v c).0 k));
    }

    pub same_chains : (c : List V) → IsChainOf cmp g c ↔ IsChainIn cmp n c
    same_chains c = (
      IsChain-same (SegmentOf g) (Joins n) (JunctionOf g) (IsStop n) (AtMost cmp)
          (λ u v. (of.segments u v).1) (λ v. (of.stops v).1) (λ v. (of.stops v).0) c,
      IsChain-same (Joins n) (SegmentOf g) (IsStop n) (JunctionOf g) (AtMost cmp)
          (λ u v. (of.segments u v).0) (λ v. (of.stops v).0) (λ v. (of.stops v).1) c,
    )
