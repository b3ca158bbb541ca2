-- A free loop that is an arc of both maps together stays as it is: it is turned already.
use Rattle.std.proofs.Common.{◌≡◌, List, [], ◌∷◌, inl, inr, refl, sym, subst}
use Rattle.std.proofs.lemmas.Cmp.{lists_total}
use Rattle.std.specs.Cmp.Lexicographic.{slice_cmp}
use Rattle.std.specs.FinMap.{slice_cmp-IsAntisymmetric}
use Rattle.theory.specs.ArcNumbers.{ArcRef, StitchTo}
use Rattle.theory.specs.Chain.{Free}
use Rattle.theory.specs.Geometry.{AtMost, Geometry, IsChainOf, JunctionOf}
use Rattle.theory.specs.LinesAndRings.{closed}
use Rattle.theory.specs.Lists.{Distinct, Has}
use Rattle.theory.specs.Seam.{IsTurned}
use Rattle.theory.specs.Topology.{IsRingList}
use Rattle.theory.proofs.Ascending.{at_most_self}
use Rattle.theory.proofs.Lists.{Has-append_left, append_nil, front-snoc}
use Rattle.theory.proofs.TurnedLists.{one_rotation}
use Rattle.grid.specs.declared.pos.Pos.{Pos}
use Rattle.lines.specs.Turned.{position_cmp}
use Rattle.lines.specs.Positions.{position_total, position_same}

module _ (g u : Geometry Pos) where
  turned : (x : Pos) (l : List Pos) → IsChainOf position_cmp g (closed (x ∷ l)) → Free (JunctionOf g) (closed (x ∷ l)) → IsChainOf position_cmp u (closed (x ∷ l)) →
      IsTurned position_cmp (JunctionOf u) (x ∷ l) x l
  turned x l old free new = record {
    rotation = ([], x ∷ l, refl, sym (append_nil (x ∷ l)));
    seam = elim new.ends [
      | inl e ↦ inl (record { there = inl refl; has_it = e.0; least = λ v h j. most v h })
      | inr e ↦ inr ((λ v h. e.1 v (more v h)), record { there = inl refl; has_it = tt; least = λ v h j. most v h })
    ];
    least = λ m r.
        subst (λ w. AtMost (slice_cmp position_cmp) (x ∷ l) (x ∷ w)) (sym (one_rotation x l m (subst Distinct (front-snoc x x l) new.front_simple) r))
        (at_most_self (slice_cmp position_cmp) (lists_total position_total) (slice_cmp-IsAntisymmetric position_same) (x ∷ l));
  }
    where
      more : (v : Pos) → Has v (x ∷ l) → Has v (closed (x ∷ l))
      more v h = Has-append_left v (x ∷ l) (x ∷ []) h

      most : (v : Pos) → Has v (x ∷ l) → AtMost position_cmp x v
      most v h = elim old.ends [ inl e ↦ absurd (free x (inl refl) e.0) | inr e ↦ e.2 v (more v h) ]

  pub stays : (arcs : List (List Pos)) (used : List ArcRef) (c r : List Pos) → c ≡ closed r → IsChainOf position_cmp g c → Free (JunctionOf g) c → IsChainOf position_cmp u c →
      StitchTo arcs used c → IsRingList position_cmp (JunctionOf u) arcs r used
  stays arcs used c [] e old free new s = absurd (subst (IsChainOf position_cmp g) e old)
  stays arcs used c (x ∷ l) e old free new s = (
    x,
    l,
    turned x l (subst (IsChainOf position_cmp g) e old) (subst (Free (JunctionOf g)) e free) (subst (IsChainOf position_cmp u) e new),
    subst (StitchTo arcs used) e s,
  )
