-- The laws of arcs that are joined again, from those of theory.
use Rattle.std.proofs.Common.{◌≡◌, ◌↔◌, ◌≤◌, ℕ, zero, suc, List, [], ◌∷◌, length, Some, slice_get, inl, inr, refl, sym, ap, ◌∙◌, subst, arith}
use Rattle.theory.specs.ArcNumbers.{ArcRef, Uses}
use Rattle.theory.specs.Geometry.{Geometry, IsChainOf, IsSound, JunctionOf, SegmentOf}
use Rattle.theory.specs.Laws.{IsOrder}
use Rattle.theory.specs.Lists.{Beside, Has, Pairwise}
use Rattle.theory.specs.Refinement.{ArePiecesOfArc, IsPartOf, RemovalLaws, pieces_at}
use Rattle.theory.proofs.ListsOfLists.{get_has}
use Rattle.theory.proofs.ProvedLaws.{pieces_of_what_is_left}
use Rattle.theory.proofs.RefinementLaws.{pieces_unique}
use Rattle.theory.proofs.HealingKept.{part_sound}
use Rattle.grid.specs.declared.pos.Pos.{Pos}
use Rattle.lines.specs.Turned.{position_cmp}
use Rattle.lines.specs.Positions.{position_total, position_same}
use Rattle.lines.proofs.Positions.{position_dec}
use Rattle.arcs.specs.Arcs.{Arcs}
use Rattle.split_heal.specs.HealingLaws.{KeptArcsOccurOnce, OnePieces, OthersOccurNowhere, OccursOnce}
use Rattle.split_heal.specs.HealedParts.{HealedParts}
use Rattle.split_heal.specs.Healing.{IsHealedOf}

-- each vertex of a list of two or more has a neighbour
beside_some : (x : Pos) (r : List Pos) → 1 ≤ length r → (v : Pos) → Has v (x ∷ r) → (w : Pos) × Beside v w (x ∷ r)
beside_some x [] n v h = absurd (omega (arith, n))
beside_some x (y ∷ r) n v (inl e) = (y, inl (inl (e, refl)))
beside_some x (y ∷ []) n v (inr (inl e)) = (x, inr (inl (refl, e)))
beside_some x (y ∷ []) n v (inr (inr z)) = absurd z
beside_some x (y ∷ (z ∷ r)) n v (inr h) =
    let t = beside_some y (z ∷ r) (omega arith) v h in (t.0, elim t.1 [ inl s ↦ inl (inr s) | inr s ↦ inr (inr s) ])

order : IsOrder position_cmp
order = record { total = position_total; same = position_same }

-- what stands at a place of the second list
paired : {A : Type 0} (R : A → List ArcRef → Type 0) (xs : List A) (ys : List (List ArcRef)) → Pairwise R xs ys →
    (i : ℕ) (x : A) → slice_get xs i ≡ Some x → (y : List ArcRef) × (slice_get ys i ≡ Some y) × R x y
paired R [] ys p i x e = absurd cc
paired R (z ∷ xs) [] p i x e = absurd p
paired R (z ∷ xs) (y ∷ ys) p zero x e = let k : Some z ≡ Some x = e in (y, refl, subst (λ w. R w y) (let m : z ≡ x = cc in m) p.0)
paired R (z ∷ xs) (y ∷ ys) p (suc i) x e = paired R xs ys p.1 i x e

module _ (g u : Geometry Pos) (su : IsSound u) (part : IsPartOf g u) (old : Arcs) (r : HealedParts) (is : IsHealedOf g u old r) where
  laws : RemovalLaws g u old.arcs r.pieces
  laws = pieces_of_what_is_left position_cmp g u order (part_sound g u su part) su part r.arcs.arcs old.arcs r.pieces is.refined

  one_list : (i : ℕ) (c : List Pos) (used : List ArcRef) → slice_get r.arcs.arcs i ≡ Some c →
      (slice_get r.pieces i ≡ Some used) ↔ ArePiecesOfArc position_cmp (JunctionOf g) (JunctionOf u) old.arcs c used
  one_list i c used e =
      let t = paired (ArePiecesOfArc position_cmp (JunctionOf g) (JunctionOf u) old.arcs) r.arcs.arcs r.pieces is.refined.cut i c e in (
        (λ f.
            let same : Some t.0 ≡ Some used = sym t.1 ∙ f in
            let h : t.0 ≡ used = cc in subst (ArePiecesOfArc position_cmp (JunctionOf g) (JunctionOf u) old.arcs c) h t.2),
        (λ are. t.1 ∙ ap Some (pieces_unique position_cmp position_total position_same position_dec (JunctionOf g) u su old.arcs is.refined.new c t.0 used t.2 are)),
      )

  occurs_once : (k : ℕ) (d : List Pos) (v w : Pos) → slice_get old.arcs k ≡ Some d → Beside v w d → SegmentOf g v w → OccursOnce g r.pieces k d
  occurs_once k d v w e b s =
      let t = laws.kept k d v w e b s in
      record {
        number = t.0;
        there = t.1;
        once = laws.one_place t.0;
        alone = λ j h. laws.one_list k j t.0 h t.1;
        whole = λ a c i. laws.all_or_none k d v w a c e b s i;
      }

  some_segment : (d : List Pos) → IsChainOf position_cmp u d → (v : Pos) × (w : Pos) × Beside v w d
  some_segment [] k = absurd k
  some_segment (x ∷ r) k = let t = beside_some x r k.long x (inl refl) in (x, t.0, t.1)

  nowhere : (k : ℕ) (d : List Pos) → slice_get old.arcs k ≡ Some d → ((v w : Pos) → Beside v w d → ¬ SegmentOf g v w) → (i : ℕ) → ¬ Uses k (pieces_at r.pieces i)
  nowhere k d e none i h =
      let t = some_segment d (is.refined.new.arcs_only d (get_has old.arcs k d e)).chain in
      none t.0 t.1 t.2 (laws.whole k i d e h t.0 t.1 t.2)

pub one_pieces : OnePieces
one_pieces g u su part old r is = one_list g u su part old r is

pub kept_arcs_occur_once : KeptArcsOccurOnce
kept_arcs_occur_once g u su part old r is = occurs_once g u su part old r is

pub others_occur_nowhere : OthersOccurNowhere
others_occur_nowhere g u su part old r is = nowhere g u su part old r is
