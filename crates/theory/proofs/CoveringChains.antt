-- Chains that have all segments of a map are its arcs, and a chain begins along its segments at a junction.
use Rattle.std.proofs.Common.{◌≡◌, List, [], ◌∷◌, reverse, inl, inr, sym, ap, ◌∙◌, subst}
use Rattle.std.proofs.lemmas.Cmp.{lists_total}
use Rattle.std.proofs.lemmas.List.{reverse-reverse}
use Rattle.std.specs.Cmp.{IsTotalOrder}
use Rattle.std.specs.Cmp.Lexicographic.{slice_cmp}
use Rattle.std.specs.FinMap.{IsAntisymmetric, slice_cmp-IsAntisymmetric}
use Rattle.std.specs.declared.cmp.Ordering.{Ordering}
use Rattle.std.specs.declared.cmp.Ordering.TheVariants.{Less}
use Rattle.theory.proofs.Ascending.{at_most_same, both_less}
use Rattle.theory.proofs.Chains.{all_chains}
use Rattle.theory.proofs.Lists.{step_from}
use Rattle.theory.proofs.Pieces.{SegmentOf-flip, two_segments_of}
use Rattle.theory.specs.Arcs.{AreArcsOf, Ascends}
use Rattle.theory.specs.Geometry.{AtMost, Geometry, IsChainOf, IsSound, JunctionOf, SegmentOf}
use Rattle.theory.specs.Lists.{Begins, Beside, Has, Steps}

-- a chain begins along each of its steps that leaves a junction
pub begins_along : {V : Type 0} (cmp : V → V → Ordering) (g : Geometry V) (c : List V) → IsChainOf cmp g c → (v p : V) → JunctionOf g v → Steps v p c → (q : List V) × (c ≡ v ∷ (p ∷ q))
begins_along cmp g [] k v p j s = absurd s
begins_along {V} cmp g (x ∷ r) k v p j s = elim (step_from x v p r s) [
  | inl h ↦ (let t = head r h.1 in (t.0, ap (λ w. w ∷ r) (sym h.0) ∙ ap (λ w. v ∷ w) t.1))
  | inr h ↦ absurd (k.inner_free h.0 v p h.1 j)
]
  where
    head : (r : List V) → Begins p r → (q : List V) × (r ≡ p ∷ q)
    head [] b = absurd b
    head (y ∷ q) b = (q, ap (λ w. w ∷ q) (sym b))

-- chains in order, each before its own reverse, that have all segments are the arcs
pub covering_arcs : {V : Type 0} (cmp : V → V → Ordering) → IsTotalOrder cmp → IsAntisymmetric cmp → ((a b : V) → Dec (a ≡ b)) → (g : Geometry V) → IsSound g →
    (arcs : List (List V)) → Ascends (slice_cmp cmp) arcs → ((c : List V) → Has c arcs → slice_cmp cmp c (reverse c) ≡ Less) → ((c : List V) → Has c arcs → IsChainOf cmp g c) →
    ((u v : V) → SegmentOf g u v → (c : List V) × Has c arcs × Beside u v c) → AreArcsOf cmp g arcs
covering_arcs cmp o same dec g sound arcs sorted forward chain covered = record {
  sorted = sorted;
  arcs_only = λ c h. record { chain = chain c h; forward = forward c h };
  all_arcs = λ c k.
      let t = all_chains (SegmentOf g) (JunctionOf g) (AtMost cmp) (SegmentOf-flip g sound dec) (two_segments_of g sound dec) (at_most_same cmp o same)
      (λ d. Has d arcs) chain covered c k.chain in
      elim t.2 [
        | inl e ↦ subst (λ w. Has w arcs) e t.1
        | inr e ↦ absurd (both_less (slice_cmp cmp) (lists_total o) (slice_cmp-IsAntisymmetric same) c (reverse c) k.forward
            (subst (λ w. slice_cmp cmp (reverse c) w ≡ Less) (reverse-reverse c)
            (subst (λ w. slice_cmp cmp w (reverse w) ≡ Less) e (forward t.0 t.1))))
      ];
}
