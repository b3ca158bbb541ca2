-- What is in a list at vertices, by the vertex `at` of each.
use Rattle.std.specs.Prelude.{◌≡◌, ℕ, zero, suc, cond, false, List, [], ◌∷◌}
use Rattle.std.specs.Ordering.{is_gt}
use Rattle.grid.specs.declared.pos.Pos.{Pos}
use Rattle.theory.specs.Lists.{Has}
use Rattle.lines.specs.Pairs.{position_eq}
use Rattle.lines.specs.Turned.{position_cmp}

-- none is before one of a lesser vertex
abbrev pub AreByVertex : {A : Type 0} → (A → Pos) → List A → Type 0
AreByVertex at [] = Unit {0}
AreByVertex {A} at (x ∷ l) = ((y : A) → Has y l → is_gt (position_cmp (at x) (at y)) ≡ false) × AreByVertex at l

-- how many of the first are at v
abbrev pub count_at : {A : Type 0} → (A → Pos) → Pos → List A → ℕ
count_at at v [] = zero
count_at at v (x ∷ l) = cond (position_eq (at x) v) (suc (count_at at v l)) zero
