-- Kept arcs that stand as they are, as joined of themselves alone.
use Rattle.std.proofs.Common.{◌≡◌, ℕ, false, List, [], ◌∷◌, ◌++◌, reverse, cond, inl, inr, refl, sym, ap, ◌∙◌, subst, Some, slice_get, option_map}
use Rattle.std.proofs.lemmas.List.{append-nil}
use Rattle.std.specs.Cmp.{IsTotalOrder}
use Rattle.std.specs.FinMap.{IsAntisymmetric}
use Rattle.std.specs.declared.cmp.Ordering.{Ordering}
use Rattle.theory.proofs.ArcsAsMap.{kind}
use Rattle.theory.proofs.Lists.{Has-append_left}
use Rattle.theory.proofs.ListsOfLists.{get_has}
use Rattle.theory.proofs.RefinementLaws.{part_junction}
use Rattle.theory.specs.ArcNumbers.{ArcRef, along}
use Rattle.theory.specs.Arcs.{AreArcsOf}
use Rattle.theory.specs.Chain.{Free}
use Rattle.theory.specs.Geometry.{Geometry, IsChainOf, IsSound, JunctionOf}
use Rattle.theory.specs.LinesAndRings.{closed}
use Rattle.theory.specs.Lists.{EndOf}
use Rattle.theory.specs.Refinement.{IsPartOf}
use Rattle.theory.specs.Healing.{IsKept, IsLoopRun, IsOpenRun, IsRun}

module _ {V : Type 0} (cmp : V → V → Ordering) (o : IsTotalOrder cmp) (same : IsAntisymmetric cmp) (dec : (a b : V) → Dec (a ≡ b))
    (u : Geometry V) (su : IsSound u) (table : List (List V)) (all : AreArcsOf cmp u table)
    (g : Geometry V) (part : IsPartOf g u) where
  abbrev Kept : ℕ → Type 0
  Kept = IsKept cmp g u table

  -- the arc ahead
  abbrev pub ahead : ℕ → ArcRef
  ahead k = record { arc = k; reversed = false }

  runs_ahead : (k : ℕ) (d : List V) → slice_get table k ≡ Some d → along table (ahead k) ≡ Some d
  runs_ahead k d e = ap (option_map (λ c. cond false (reverse c) c)) e

  one_run : (k : ℕ) (x : V) (r : List V) → Kept k → slice_get table k ≡ Some (x ∷ r) → IsRun Kept table (ahead k ∷ []) (x ∷ r)
  one_run k x r kept e = record {
    some = λ z. absurd cc;
    stitch = (r, [], runs_ahead k (x ∷ r) e, sym (append-nil r), refl);
    once = ((λ h. h), tt);
    stays = λ m h. elim h [ inl f ↦ subst Kept (sym f) kept | inr z ↦ absurd z ];
  }

  -- between two junctions
  pub whole_run : (k : ℕ) (d : List V) → Kept k → slice_get table k ≡ Some d → ((v : V) → EndOf v d → JunctionOf g v) →
      IsOpenRun Kept (JunctionOf g) table d (ahead k ∷ [])
  whole_run k [] kept e j = absurd (all.arcs_only [] (get_has table k [] e)).chain
  whole_run k (x ∷ r) kept e j = record { run = one_run k x r kept e; ends = j; meets = λ b v h f. absurd h }

  -- a free loop
  pub loop_run : (k : ℕ) (d : List V) → Kept k → slice_get table k ≡ Some d → Free (JunctionOf u) d → IsLoopRun cmp Kept (JunctionOf g) table d (ahead k ∷ [])
  loop_run k d kept e free =
      elim (kind cmp o same dec u su table all d (get_has table k d e)) [
        | inl q ↦ absurd (q.1 free)
        | inr q ↦ go q.0 q.1
      ]
    where
      go : (loop : List V) → d ≡ closed loop → IsLoopRun cmp Kept (JunctionOf g) table d (ahead k ∷ [])
      go [] f = absurd (subst (IsChainOf cmp u) f (all.arcs_only d (get_has table k d e)).chain)
      go (x ∷ l) f =
          let e' : slice_get table k ≡ Some (closed (x ∷ l)) = e ∙ ap Some f in
          let c : IsChainOf cmp u (closed (x ∷ l)) = subst (IsChainOf cmp u) f (all.arcs_only d (get_has table k d e)).chain in
          let free' : Free (JunctionOf u) (closed (x ∷ l)) = subst (Free (JunctionOf u)) f free in
          record {
            from = ahead k ∷ [];
            round = x ∷ l;
            first = x;
            rest = l;
            run = one_run k x (l ++ (x ∷ [])) kept e';
            meets = λ b v h s j. elim h [
              | inr z ↦ z
              | inl m ↦
                  let n : Some (v ∷ s.0) ≡ Some (closed (x ∷ l)) = sym s.1 ∙ ap (along table) m ∙ runs_ahead k (closed (x ∷ l)) e' in
                  let w : v ≡ x = cc in free' v (inl w) (part_junction cmp o same dec g u part v j)
            ];
            turned = ([], x ∷ l, refl, sym (append-nil (x ∷ l)));
            least = elim c.ends [
              | inl j ↦ absurd (free' x (inl refl) j.0)
              | inr t ↦ λ v h. t.2 v (elim h [ inl m ↦ inl m | inr m ↦ inr (Has-append_left v l (x ∷ []) m) ])
            ];
            arc = f;
            list = refl;
          }
