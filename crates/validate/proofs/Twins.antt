-- Vertices of which two are equal, as sorting tells it.
use Rattle.std.proofs.Common.{◌≡◌, true, List, [], ◌∷◌, inl, inr}
use Rattle.std.specs.List.Sorted.{IsPermutation, IsSorted}
use Rattle.grid.specs.declared.pos.Pos.{Pos}
use Rattle.theory.specs.Lists.{Distinct}
use Rattle.lines.specs.Turned.{position_cmp}
use Rattle.lines.specs.Positions.{position_total, position_same}
use Rattle.lines.specs.Pairs.{position_eq}
use Rattle.lines.specs.Neighbours.{equal_neighbours}
use Rattle.lines.proofs.Positions.{position_true, true_position}
use Rattle.lines.proofs.Doubles.{Doubled, Doubled-permutation, doubled_neighbours, neighbours_doubled}

-- sorted, equal ones are neighbours
pub twins_sorted : (l : List Pos) → IsSorted position_cmp l → Doubled l → equal_neighbours position_eq l ≡ true
twins_sorted = doubled_neighbours position_cmp position_total position_same position_eq position_true true_position

pub twins_doubled : (l : List Pos) → equal_neighbours position_eq l ≡ true → Doubled l
twins_doubled = neighbours_doubled position_cmp position_total position_same position_eq position_true true_position

pub distinct_from : {V : Type 0} (l : List V) → ¬ Doubled l → Distinct l
distinct_from [] n = tt
distinct_from (x ∷ l) n = ((λ h. n (inl h)), distinct_from l (λ h. n (inr h)))

pub not_doubled : {V : Type 0} (l : List V) → Distinct l → ¬ Doubled l
not_doubled [] d h = h
not_doubled (x ∷ l) d (inl h) = d.0 h
not_doubled (x ∷ l) d (inr h) = not_doubled l d.1 h

pub doubled_moved : (xs ys : List Pos) → IsPermutation xs ys → Doubled xs → Doubled ys
doubled_moved = Doubled-permutation position_cmp position_total position_same
