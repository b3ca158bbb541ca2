-- Equality of positions, by their order and by tests.
use Rattle.std.proofs.Common.{◌≡◌, Bool, true, false, ◌&&◌, ◌⊎◌, inl, inr, refl, sym, ap, ◌∙◌, subst, rules}
use Rattle.std.specs.Cmp.{tied_itself}
use Rattle.std.specs.Ordering.{is_eq, is_lt}
use Rattle.std.specs.declared.cmp.Ordering.{Ordering}
use Rattle.std.specs.declared.cmp.Ordering.TheVariants.{Less, Equal, Greater}
use Rattle.grid.specs.declared.pos.Pos.{Pos}
use Rattle.grid.specs.contracts.pos.PosPartialEq.TheImpl as pos_eq
use Rattle.theory.specs.Geometry.{AtMost}
use Rattle.theory.specs.TopologyFunction.{same_vertex}
use Rattle.theory.proofs.Ascending.{dec_by}
use Rattle.lines.specs.Turned.{position_cmp}
use Rattle.lines.specs.Positions.{position_total, position_same}
use Rattle.lines.specs.Pairs.{position_eq}
use Rattle.lines.proofs.SortedLists.{squeezed, tied_same}

-- the derived test is that of the order
pub derived_eq : (p q : Pos) → pos_eq.eq-value.it p q ≡ same_vertex position_cmp p q
derived_eq p q = search rules

pub derived_is : pos_eq.eq-value.it ≡ same_vertex position_cmp
derived_is = λ i p q. derived_eq p q i

pub position_eq_is : (p q : Pos) → position_eq p q ≡ same_vertex position_cmp p q
position_eq_is p q = search rules

pub position_true : (p q : Pos) → position_eq p q ≡ true → p ≡ q
position_true p q e = tied_same position_cmp position_same p q (sym (position_eq_is p q) ∙ e)

pub position_refl : (p : Pos) → position_eq p p ≡ true
position_refl p = position_eq_is p p ∙ ap is_eq (tied_itself position_total p)

pub both_true : (s t : Bool) → (s && t) ≡ true → (s ≡ true) × (t ≡ true)
both_true true t e = (refl, e)
both_true false t e = cc

pub both_intro : (s t : Bool) → s ≡ true → t ≡ true → (s && t) ≡ true
both_intro true t e f = f
both_intro false t e f = cc

pub bool_split : (b : Bool) → (b ≡ true) ⊎ (b ≡ false)
bool_split true = inl refl
bool_split false = inr refl

pub true_false : (b : Bool) → b ≡ true → ¬ (b ≡ false)
true_false b e f = cc

pub position_decide : (p q : Pos) → (p ≡ q) ⊎ (¬ (p ≡ q))
position_decide p q =
    elim (bool_split (position_eq p q)) [
      | inl e ↦ inl (position_true p q e)
      | inr e ↦ inr (λ f. true_false (position_eq p q) (subst (λ w. position_eq p w ≡ true) f (position_refl p)) e)
    ]

pub position_apart : (p q : Pos) → ¬ (q ≡ p) → is_eq (position_cmp p q) ≡ false
position_apart p q n = go (position_cmp p q) refl
  where
    go : (r : Ordering) → position_cmp p q ≡ r → is_eq r ≡ false
    go Less e = refl
    go Equal e = absurd (n (sym (position_same p q e)))
    go Greater e = refl

pub position_tied : (p q : Pos) → is_eq (position_cmp p q) ≡ true → p ≡ q
position_tied = tied_same position_cmp position_same

pub tied_position : (p q : Pos) → p ≡ q → is_eq (position_cmp p q) ≡ true
tied_position p q e = subst (λ w. is_eq (position_cmp p w) ≡ true) e (ap is_eq (tied_itself position_total p))

pub true_position : (p q : Pos) → p ≡ q → position_eq p q ≡ true
true_position p q e = subst (λ w. position_eq p w ≡ true) e (position_refl p)

pub position_most : (p q : Pos) → AtMost position_cmp p q → AtMost position_cmp q p → p ≡ q
position_most p q h k = position_same p q (squeezed position_cmp position_total (position_cmp p q) (position_cmp q p) (position_total.antisymm p q) h k)

pub not_before : (p q : Pos) → p ≡ q → ¬ (is_lt (position_cmp p q) ≡ true)
not_before p q e = go (position_cmp p q) (subst (λ w. position_cmp p w ≡ Equal) e (tied_itself position_total p))
  where
    go : (r : Ordering) → r ≡ Equal → ¬ (is_lt r ≡ true)
    go r h k = let m : is_lt Equal ≡ true = subst (λ w. is_lt w ≡ true) h k in cc

pub position_dec : (a b : Pos) → Dec (a ≡ b)
position_dec = dec_by position_cmp position_total position_same
