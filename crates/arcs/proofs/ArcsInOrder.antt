-- Arcs that stand in order, with marks beside them.
use Rattle.std.proofs.Common.{◌≡◌, Bool, true, false, ◌&&◌, ◌↔◌, List, [], ◌∷◌, map, drop, inl, refl, sym, ap, ◌∙◌}
use Rattle.std.specs.Ordering.{is_lt}
use Rattle.grid.specs.declared.pos.Pos.{Pos}
use Rattle.lines.specs.Turned.{list_cmp}
use Rattle.lines.proofs.Positions.{both_intro}
use Rattle.theory.specs.Arcs.{Ascends}
use Rattle.arcs.specs.Stored.{loops_of, positions_of, rises, with_marks}
use Rattle.arcs.specs.Table.{marked}
use Rattle.arcs.proofs.Rising.{ascends_rising}

-- a step to the next arc, and the last one
pub rising_step : (c d : List Pos) (l : List (List Pos)) (b : Bool) → b ≡ is_lt (list_cmp c d) → true ≡ b → rises (c ∷ (d ∷ l)) ≡ rises (d ∷ l)
rising_step c d l b e t = ap (λ w. w && rises (d ∷ l)) (sym e ∙ sym t)

pub rising_stop : (c d : List Pos) (l : List (List Pos)) (b : Bool) → b ≡ is_lt (list_cmp c d) → false ≡ b → false ≡ rises (c ∷ (d ∷ l))
rising_stop c d l b e t = sym (ap (λ w. w && rises (d ∷ l)) (sym e ∙ sym t))

rising_ascends : (l : List (List Pos)) → Ascends list_cmp l → rises l ≡ true
rising_ascends [] a = refl
rising_ascends (c ∷ []) a = refl
rising_ascends (c ∷ (d ∷ l)) a = both_intro (is_lt (list_cmp c d)) (rises (d ∷ l)) (ap is_lt (a.0 d (inl refl))) (rising_ascends (d ∷ l) a.1)

-- the lists are those that were given
pub with_marks_positions : (arcs : List (List Pos)) (marks : List Bool) → map positions_of (with_marks arcs marks) ≡ arcs
with_marks_positions [] marks = refl
with_marks_positions (c ∷ arcs) marks = ap (λ w. c ∷ w) (with_marks_positions arcs (drop 1 marks))

none_marked : (arcs : List (List Pos)) → loops_of (with_marks arcs []) ≡ []
none_marked [] = refl
none_marked (c ∷ arcs) = none_marked arcs

-- and the free loops are those that are marked
pub with_marks_loops : (arcs : List (List Pos)) (marks : List Bool) → loops_of (with_marks arcs marks) ≡ marked arcs marks
with_marks_loops [] marks = refl
with_marks_loops (c ∷ arcs) [] = none_marked arcs
with_marks_loops (c ∷ arcs) (true ∷ marks) = ap (λ w. c ∷ w) (with_marks_loops arcs marks)
with_marks_loops (c ∷ arcs) (false ∷ marks) = with_marks_loops arcs marks

-- what the test of the order tells
pub sorted_means : (arcs : List (List Pos)) (b : Bool) → b ≡ rises arcs → (b ≡ true) ↔ Ascends list_cmp arcs
sorted_means arcs b e = ((λ h. ascends_rising arcs (sym e ∙ h)), (λ a. e ∙ rising_ascends arcs a))
