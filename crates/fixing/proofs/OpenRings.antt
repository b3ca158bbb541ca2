-- Which rings are open, and that those that the rules close are not.
use Rattle.std.proofs.Common.{◌≡◌, ◌↔◌, Bool, true, false, cond, not, ◌&&◌, List, [], ◌∷◌, length, nat_lt, refl, sym, ap, ◌∙◌, subst, Some, None}
use Rattle.std.specs.List.{dedup_from}
use Rattle.grid.specs.declared.pos.Pos.{Pos}
use Rattle.theory.specs.LinesAndRings.{closed}
use Rattle.theory.specs.Lists.{last_of}
use Rattle.theory.specs.TopologyFunction.{same_vertex}
use Rattle.theory.proofs.JunctionTest.{equal-same_vertex, same_vertex-equal}
use Rattle.theory.proofs.Lists.{last-snoc}
use Rattle.lines.specs.Positions.{position_same, position_total}
use Rattle.lines.specs.Reading.{collapsed_ring_fault, repeats, ring_fault}
use Rattle.lines.specs.Turned.{position_cmp}
use Rattle.lines.specs.declared.shape_fault.ShapeFault.TheVariants.{TooShort, NotClosed, Revisit}
use Rattle.fixing.specs.Laws.{OpenRingsAreClosed}
use Rattle.fixing.specs.Left.{closes, is_open}
use Rattle.fixing.specs.declared.rules.FixingRules.{FixingRules}

-- equal neighbours read as one leave the first and the last
ends_stay : (x : Pos) (l : List Pos) → (r : List Pos) × (dedup_from (same_vertex position_cmp) x l ≡ x ∷ r) × (last_of x r ≡ last_of x l)
ends_stay x [] = ([], refl, refl)
ends_stay x (y ∷ l) = go (same_vertex position_cmp y x) refl (ends_stay x l) (ends_stay y l)
  where
    go : (b : Bool) → same_vertex position_cmp y x ≡ b →
        ((r : List Pos) × (dedup_from (same_vertex position_cmp) x l ≡ x ∷ r) × (last_of x r ≡ last_of x l)) →
        ((r : List Pos) × (dedup_from (same_vertex position_cmp) y l ≡ y ∷ r) × (last_of y r ≡ last_of y l)) →
        (r : List Pos) × (cond b (dedup_from (same_vertex position_cmp) x l) (x ∷ dedup_from (same_vertex position_cmp) y l) ≡ x ∷ r) × (last_of x r ≡ last_of y l)
    go true p (r, is, ends) h = (r, is, ends ∙ ap (λ w. last_of w l) (sym (same_vertex-equal position_cmp position_total position_same y x p)))
    go false p h (r, is, ends) = (y ∷ r, ap (λ w. x ∷ w) is, ends)

-- a list is judged to be open exactly where it is
pub judged_open : (l : List Pos) → ring_fault position_cmp l ≡ Some NotClosed ↔ is_open l ≡ true
unfolding ring_fault
judged_open [] = ((λ h. absurd cc), (λ h. absurd cc))
judged_open (x ∷ l) =
    let k = ends_stay x l in
    subst (λ w. collapsed_ring_fault position_cmp w ≡ Some NotClosed ↔ is_open (x ∷ l) ≡ true) (sym k.1)
    (subst (λ w. collapsed_ring_fault position_cmp (x ∷ k.0) ≡ Some NotClosed ↔ not (same_vertex position_cmp x w) ≡ true) k.2
    (go (same_vertex position_cmp x (last_of x k.0)) (nat_lt (length (x ∷ k.0)) 4) (repeats position_cmp (x ∷ k.0))))
  where
    go : (b d r : Bool) → cond (not b) (Some NotClosed) (cond d (Some TooShort) (cond r (Some Revisit) None)) ≡ Some NotClosed ↔ not b ≡ true
    go false d r = ((λ h. refl), (λ h. refl))
    go true true r = ((λ h. absurd cc), (λ h. absurd cc))
    go true false true = ((λ h. absurd cc), (λ h. absurd cc))
    go true false false = ((λ h. absurd cc), (λ h. absurd cc))

closed_is_closed : (l : List Pos) → is_open (closed l) ≡ false
closed_is_closed [] = refl
closed_is_closed (x ∷ l) = ap not (equal-same_vertex position_cmp position_total position_same x _ (sym (last-snoc x x l)))

-- a list without a fault is not open, so the rules don't close it
pub sound_closed : (rules : FixingRules) (l : List Pos) → ring_fault position_cmp l ≡ None → closes rules l ≡ false
sound_closed rules l e = go rules.closes_rings (is_open l) refl
  where
    go : (b o : Bool) → is_open l ≡ o → (b && o) ≡ false
    go false o k = refl
    go true false k = refl
    go true true k = absurd (let m : Some NotClosed ≡ None = sym ((judged_open l).1 k) ∙ e in cc)

pub open_rings_are_closed : OpenRingsAreClosed
open_rings_are_closed rules l = go rules.closes_rings (is_open l) refl
  where
    go : (b o : Bool) → is_open l ≡ o → ring_fault position_cmp (cond (b && o) (closed l) l) ≡ Some NotClosed ↔ ((b ≡ false) × (is_open l ≡ true))
    go false o k = ((λ h. (refl, (judged_open l).0 h)), (λ h. (judged_open l).1 h.1))
    go true false k = ((λ h. absurd (let m : false ≡ true = sym k ∙ (judged_open l).0 h in cc)), (λ h. absurd (let m : true ≡ false = h.0 in cc)))
    go true true k = (
      (λ h. absurd (let m : false ≡ true = sym (closed_is_closed l) ∙ (judged_open (closed l)).0 h in cc)),
      (λ h. absurd (let m : true ≡ false = h.0 in cc)),
    )
