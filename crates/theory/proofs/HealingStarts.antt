-- What begins where can always be noted.
use Rattle.std.proofs.Common.{◌≡◌, ℕ, zero, suc, Bool, true, false, cond, List, [], ◌∷◌, length, ◌⊎◌, inl, inr, refl, sym, ap, ◌∙◌, Option, Some, None}
use Rattle.std.proofs.Math.Decide.{ℕ_discrete}
use Rattle.std.specs.Cmp.{IsTotalOrder}
use Rattle.std.specs.FinMap.{IsAntisymmetric}
use Rattle.std.specs.declared.cmp.Ordering.{Ordering}
use Rattle.theory.proofs.HealingLists.{starts_once}
use Rattle.theory.specs.ArcNumbers.{ArcRef, backwards}
use Rattle.theory.specs.Arcs.{AreArcsOf}
use Rattle.theory.specs.Geometry.{Geometry, IsSound}
use Rattle.theory.specs.Refinement.{IsPartOf, IsRefinementOf, pieces_at, pieces_of_used}
use Rattle.theory.specs.Healing.{AreStarts, Starts}

same_ref : (a b : ArcRef) → Dec (a ≡ b)
same_ref a b = elim (ℕ_discrete a.arc b.arc) [
  | no n ↦ no (λ e. n (ap (λ w. w.arc) e))
  | yes e ↦ way a.reversed refl b.reversed refl e
]
  where
    way : (s : Bool) → a.reversed ≡ s → (t : Bool) → b.reversed ≡ t → a.arc ≡ b.arc → Dec (a ≡ b)
    way true p true q e = yes (λ i. record { arc = e i; reversed = (p ∙ sym q) i })
    way false p false q e = yes (λ i. record { arc = e i; reversed = (p ∙ sym q) i })
    way true p false q e = no (λ f. absurd (let g : true ≡ false = sym p ∙ ap (λ w. w.reversed) f ∙ q in cc))
    way false p true q e = no (λ f. absurd (let g : false ≡ true = sym p ∙ ap (λ w. w.reversed) f ∙ q in cc))

-- whether a list begins so
begins_so : (a : ArcRef) (ps : List ArcRef) → ((more : List ArcRef) × (ps ≡ a ∷ more)) ⊎ ((more : List ArcRef) → ¬ (ps ≡ a ∷ more))
begins_so a [] = inr (λ more e. absurd cc)
begins_so a (x ∷ ps) = elim (same_ref x a) [
  | yes e ↦ inl (ps, ap (λ w. w ∷ ps) e)
  | no n ↦ inr (λ more e. n (let f : x ≡ a = cc in f))
]

-- whether a used new arc begins with a
started_by : (pieces : List (List ArcRef)) (a : ArcRef) →
    ((b : ArcRef) × (more : List ArcRef) × (pieces_of_used pieces b ≡ a ∷ more)) ⊎ ((b : ArcRef) (more : List ArcRef) → ¬ (pieces_of_used pieces b ≡ a ∷ more))
started_by [] a = inr (λ b more. none b.reversed more)
  where
    none : (r : Bool) (more : List ArcRef) → ¬ (cond r (backwards []) [] ≡ a ∷ more)
    none true more e = absurd cc
    none false more e = absurd cc
started_by (p ∷ pieces) a =
    elim (begins_so a p) [
      | inl k ↦ inl (record { arc = zero; reversed = false }, k.0, k.1)
      | inr n ↦ elim (begins_so a (backwards p)) [
        | inl k ↦ inl (record { arc = zero; reversed = true }, k.0, k.1)
        | inr m ↦ elim (started_by pieces a) [
          | inl t ↦ inl (record { arc = suc t.0.arc; reversed = t.0.reversed }, t.1, t.2)
          | inr l ↦ inr (λ b more. none n m l b.arc b.reversed more)
        ]
      ]
    ]
  where
    none : ((more : List ArcRef) → ¬ (p ≡ a ∷ more)) → ((more : List ArcRef) → ¬ (backwards p ≡ a ∷ more)) →
        ((b : ArcRef) (more : List ArcRef) → ¬ (pieces_of_used pieces b ≡ a ∷ more)) →
        (k : ℕ) (r : Bool) (more : List ArcRef) → ¬ (cond r (backwards (pieces_at (p ∷ pieces) k)) (pieces_at (p ∷ pieces) k) ≡ a ∷ more)
    none n m l zero false more e = n more e
    none n m l zero true more e = m more e
    none n m l (suc k) r more e = l (record { arc = k; reversed = r }) more e

abbrev recorded_by : (a : ArcRef) (pieces : List (List ArcRef)) →
    ((b : ArcRef) × (more : List ArcRef) × (pieces_of_used pieces b ≡ a ∷ more)) ⊎ ((b : ArcRef) (more : List ArcRef) → ¬ (pieces_of_used pieces b ≡ a ∷ more)) →
    Option (ArcRef × ℕ)
recorded_by a pieces (inl t) = Some (t.0, length t.1)
recorded_by a pieces (inr n) = None

abbrev pair_of : ArcRef × ℕ → Option (ArcRef × ℕ) → ArcRef × ℕ
pair_of d None = d
pair_of d (Some p) = p

module _ {V : Type 0} (cmp : V → V → Ordering) (o : IsTotalOrder cmp) (same : IsAntisymmetric cmp) (dec : (a b : V) → Dec (a ≡ b))
    (u : Geometry V) (su : IsSound u) (table : List (List V)) (all : AreArcsOf cmp u table)
    (g : Geometry V) (part : IsPartOf g u) (arcs : List (List V)) (pieces : List (List ArcRef))
    (ref : IsRefinementOf cmp g u arcs table pieces) where
  -- a table of what begins where
  pub starts_exist : (starts : Starts) × AreStarts pieces starts
  starts_exist = (
    (λ a. recorded_by a pieces (started_by pieces a)),
    record { recorded = λ a b more e. recorded a b more e (started_by pieces a); only = λ a b n e. only a b n (started_by pieces a) e },
  )
    where
      recorded : (a b : ArcRef) (more : List ArcRef) → pieces_of_used pieces b ≡ a ∷ more →
          (t : ((b : ArcRef) × (more : List ArcRef) × (pieces_of_used pieces b ≡ a ∷ more)) ⊎ ((b : ArcRef) (more : List ArcRef) → ¬ (pieces_of_used pieces b ≡ a ∷ more))) →
          recorded_by a pieces t ≡ Some (b, length more)
      recorded a b more e (inl t) =
          let k = starts_once cmp o same dec u su table all g part arcs pieces ref t.0 b a t.1 more t.2 e in
          λ i. Some (k.0 i, length (k.1 i))
      recorded a b more e (inr n) = absurd (n b more e)

      only : (a b : ArcRef) (n : ℕ) →
          (t : ((b : ArcRef) × (more : List ArcRef) × (pieces_of_used pieces b ≡ a ∷ more)) ⊎ ((b : ArcRef) (more : List ArcRef) → ¬ (pieces_of_used pieces b ≡ a ∷ more))) →
          recorded_by a pieces t ≡ Some (b, n) → (more : List ArcRef) × (pieces_of_used pieces b ≡ a ∷ more) × (length more ≡ n)
      only a b n (inl t) e =
          let f : t.0 ≡ b = ap (λ w. (pair_of (b, n) w).0) e in
          let h : length t.1 ≡ n = ap (λ w. (pair_of (b, n) w).1) e in
          (t.1, ap (pieces_of_used pieces) (sym f) ∙ t.2, h)
      only a b n (inr m) e = absurd cc
