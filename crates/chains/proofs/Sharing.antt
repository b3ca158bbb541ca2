-- What a test of positions says of lists of them.
use Rattle.std.proofs.Common.{◌≡◌, Bool, true, false, ◌||◌, List, [], ◌∷◌, ◌++◌, inl, inr, Option, Some, None, refl, sym, ap, ◌∙◌}
use Rattle.std.specs.List.{list_any}
use Rattle.theory.specs.Lists.{Has}
use Rattle.theory.proofs.Lists.{last-snoc}
use Rattle.grid.specs.declared.pos.Pos.{Pos}
use Rattle.lines.proofs.Positions.{true_false}
use Rattle.arcs.specs.Among.{among}
use Rattle.lines.specs.PositionFilter.{may_hold}
use Rattle.lines.specs.Holding.{Holds}
use Rattle.chains.specs.VertexFilter.{arc_meets, arc_shared, KeepsClashes}
use Rattle.chains.specs.Visits.{ends_of}
use Rattle.lines.specs.declared.position_filter.PositionFilter.{PositionFilter}
use Rattle.chains.specs.declared.visits.Visit.{Visit}
use Rattle.chains.proofs.Among.{among_has}

-- what finds a bit not set is none of the list
pub not_held : (bits : PositionFilter) (js ks : List Pos) (p : Pos) (b : Bool) → ks ≡ js → b ≡ may_hold bits p → b ≡ false → Holds (may_hold bits) ks → b ≡ among js p
not_held bits js ks p b v e f h = f ∙ sym (go (among ks p) refl) ∙ ap (λ l. among l p) v
  where
    go : (a : Bool) → among ks p ≡ a → among ks p ≡ false
    go true t = absurd (true_false (may_hold bits p) (h p (among_has ks p t)) (sym e ∙ f))
    go false t = t

-- what is said of none holds of no member
pub none_met : (may : Pos → Bool) (l : List Pos) → list_any may l ≡ false → (v : Pos) → Has v l → may v ≡ false
none_met may [] e v h = absurd h
none_met may (x ∷ l) e v h = go (may x) refl e h (λ z k. none_met may l z v k)
  where
    go : (b : Bool) → may x ≡ b → (b || list_any may l) ≡ false → Has v (x ∷ l) → (list_any may l ≡ false → Has v l → may v ≡ false) → may v ≡ false
    go true f z k rest = absurd cc
    go false f z (inl q) rest = ap may q ∙ f
    go false f z (inr q) rest = rest z q

-- where it is said of no member, it is said of none
pub none_any : (may : Pos → Bool) (l : List Pos) → ((v : Pos) → Has v l → may v ≡ false) → list_any may l ≡ false
none_any may [] h = refl
none_any may (x ∷ l) h = ap (λ b. b || list_any may l) (h x (inl refl)) ∙ none_any may l (λ v k. h v (inr k))

pub keeps_all : (visits : List Visit) → KeepsClashes visits visits
keeps_all visits = record { only = λ w h. h; clashing = λ v w h k s d. h }

-- the first and the last of a list
pub ends_split : (x : Pos) (others front : List Pos) (last : Pos) → others ≡ front ++ (last ∷ []) → ends_of (x ∷ others) ≡ x ∷ (last ∷ [])
ends_split x others [] last e = ap (λ w. ends_of (x ∷ w)) e
ends_split x others (y ∷ s) last e = ap (λ w. ends_of (x ∷ w)) e ∙ ap (λ w. x ∷ (w ∷ [])) (last-snoc y last s)
