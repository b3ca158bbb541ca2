-- Steps by where they begin, then by where they end.
use Rattle.std.proofs.Common.{◌≡◌, Bool, true, false, cond, List, [], ◌∷◌, ◌⊎◌, inl, inr, refl, sym, ap, ◌∙◌, subst}
use Rattle.std.specs.Cmp.{IsTotalOrder, on_total, then_total, tied_itself, upto}
use Rattle.std.specs.FinMap.{IsAntisymmetric}
use Rattle.std.specs.Ordering.{is_gt, is_lt, ord_min}
use Rattle.grid.specs.declared.pos.Pos.{Pos}
use Rattle.lines.proofs.SortedLists.{less_most, not_less}
use Rattle.lines.specs.Positions.{position_total, position_same, then_equal}
use Rattle.lines.specs.Turned.{position_cmp}
use Rattle.theory.specs.Geometry.{AtMost}
use Rattle.theory.specs.Lists.{Steps}
use Rattle.arcs.specs.Steps.{least_from, step, step_cmp}
use Rattle.arcs.specs.declared.step.ArcStep.{ArcStep}

pub step_total : IsTotalOrder step_cmp
step_total = then_total (on_total (λ (s : ArcStep). s.from) position_total) (on_total (λ (s : ArcStep). s.to) position_total)

-- steps that tie are one
pub step_same : IsAntisymmetric step_cmp
step_same s t e =
    let both = then_equal (position_cmp s.from t.from) (position_cmp s.to t.to) e in
    let f = position_same s.from t.from both.0 in
    let g = position_same s.to t.to both.1 in
    λ i. step (f i) (g i)

most_self : (s : ArcStep) → AtMost step_cmp s s
most_self s = ap is_gt (tied_itself step_total s)

-- the lesser of two comes after neither, and is one of them
lesser_left : (s t : ArcStep) → AtMost step_cmp (ord_min step_cmp s t) s
lesser_left s t = go (is_lt (step_cmp t s)) refl
  where
    go : (b : Bool) → is_lt (step_cmp t s) ≡ b → AtMost step_cmp (cond b t s) s
    go true e = less_most (step_cmp t s) e
    go false e = most_self s

lesser_right : (s t : ArcStep) → AtMost step_cmp (ord_min step_cmp s t) t
lesser_right s t = go (is_lt (step_cmp t s)) refl
  where
    go : (b : Bool) → is_lt (step_cmp t s) ≡ b → AtMost step_cmp (cond b t s) t
    go true e = most_self t
    go false e = not_less step_cmp step_total (step_cmp t s) (step_cmp s t) (step_total.antisymm t s) e

lesser_one : (s t : ArcStep) → (ord_min step_cmp s t ≡ s) ⊎ (ord_min step_cmp s t ≡ t)
lesser_one s t = go (is_lt (step_cmp t s))
  where
    go : (b : Bool) → (cond b t s ≡ s) ⊎ (cond b t s ≡ t)
    go true = inr refl
    go false = inl refl

-- m is the least of s and the steps along l, or of those back
pub record IsLeastFrom (way : Pos → Pos → ArcStep) (s : ArcStep) (l : List Pos) (m : ArcStep) : Type 0 where
  pub first : AtMost step_cmp m s
  pub all : (u v : Pos) → Steps u v l → AtMost step_cmp m (way u v)
  pub found : (m ≡ s) ⊎ ((u : Pos) × (v : Pos) × Steps u v l × (m ≡ way u v))

pub least_is : (way : Pos → Pos → ArcStep) (s : ArcStep) (p : Pos) (l : List Pos) → IsLeastFrom way s (p ∷ l) (least_from way s p l)
least_is way s p [] = record {
  first = most_self s;
  all = λ u v h. absurd (elim h [ inl k ↦ k.1 | inr k ↦ k ]);
  found = inl refl;
}
least_is way s p (q ∷ l) =
    let better : ArcStep = ord_min step_cmp s (way p q) in
    let m : ArcStep = least_from way better q l in
    let t : IsLeastFrom way better (q ∷ l) m = least_is way better q l in
    record {
      first = upto step_total m better s t.first (lesser_left s (way p q));
      all = λ u v h. elim h [
        | inl k ↦ subst (λ w. AtMost step_cmp m w) (λ i. way (sym k.0 i) (sym k.1 i)) (upto step_total m better (way p q) t.first (lesser_right s (way p q)))
        | inr k ↦ t.all u v k
      ];
      found = elim t.found [
        | inl e ↦ elim (lesser_one s (way p q)) [ inl f ↦ inl (e ∙ f) | inr f ↦ inr (p, q, inl (refl, refl), e ∙ f) ]
        | inr k ↦ inr (k.0, k.1, inr k.2, k.3)
      ];
    }
