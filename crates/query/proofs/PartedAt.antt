-- A list parted at a step.
use Rattle.std.proofs.Common.{◌≡◌, Bool, true, false, cond, ◌&&◌, List, [], ◌∷◌, ◌++◌, inl, inr, refl, sym, ap, ◌∙◌}
use Rattle.grid.specs.declared.pos.Pos.{Pos}
use Rattle.lines.specs.Pairs.{position_eq}
use Rattle.lines.proofs.Positions.{both_true, position_refl, position_true}
use Rattle.theory.specs.Lists.{Steps}
use Rattle.arcs.specs.declared.step.ArcStep.{ArcStep}
use Rattle.query.specs.Steps.{is_step, behind_from, up_to_from}

-- the step stands in a list, behind `before`
pub record IsParted (s : ArcStep) (x : Pos) (l before : List Pos) : Type 0 where
  pub whole : x ∷ l ≡ before ++ (s.from ∷ (s.to ∷ behind_from s x l))
  pub front : x ∷ up_to_from s x l ≡ before ++ (s.from ∷ [])

step_there : (s : ArcStep) (x y : Pos) → is_step s x y ≡ true → (s.from ≡ x) × (s.to ≡ y)
step_there s x y e =
    let t = both_true (position_eq s.from x) (position_eq s.to y) e in
    (position_true s.from x t.0, position_true s.to y t.1)

step_means : (s : ArcStep) (x y : Pos) → s.from ≡ x → s.to ≡ y → is_step s x y ≡ true
step_means s x y e f =
    (λ i. position_eq s.from (sym e i) && position_eq s.to (sym f i)) ∙ ap (λ b. b && position_eq s.to s.to) (position_refl s.from) ∙ position_refl s.to

pub parted : (s : ArcStep) (x : Pos) (l : List Pos) → Steps s.from s.to (x ∷ l) → (before : List Pos) × IsParted s x l before
parted s x [] h = elim h [ inl k ↦ absurd k.1 | inr n ↦ absurd n ]
parted s x (y ∷ l) h = let t = go (is_step s x y) refl (parted s y l) in (t.0, record { whole = t.1; front = t.2 })
  where
    go : (b : Bool) → is_step s x y ≡ b → (Steps s.from s.to (y ∷ l) → (before : List Pos) × IsParted s y l before) →
        (before : List Pos) × (x ∷ (y ∷ l) ≡ before ++ (s.from ∷ (s.to ∷ cond b l (behind_from s y l)))) ×
        (x ∷ cond b [] (y ∷ up_to_from s y l) ≡ before ++ (s.from ∷ []))
    go true e ih =
        let t = step_there s x y e in
        ([], (λ i. sym t.0 i ∷ (sym t.1 i ∷ l)), ap (λ w. w ∷ []) (sym t.0))
    go false e ih = elim h [
      | inl k ↦ absurd (let c : true ≡ false = sym (step_means s x y k.0 k.1) ∙ e in cc)
      | inr k ↦ let t = ih k in (x ∷ t.0, ap (λ w. x ∷ w) t.1.whole, ap (λ w. x ∷ w) t.1.front)
    ]
