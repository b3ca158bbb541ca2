-- The visits of lists, as a list.
use Rattle.std.specs.Prelude.{Bool, cond, not, ◌&&◌, ◌↔◌, List, [], ◌∷◌}
use Rattle.theory.specs.Lists.{Has, last_of}
use Rattle.theory.specs.LinesAndRings.{around}
use Rattle.grid.specs.declared.pos.Pos.{Pos}
use Rattle.lines.specs.Pairs.{position_eq, pair_eq, pair_of}
use Rattle.chains.specs.declared.visits.Visit.{Visit}

-- whether two visits are equal
abbrev pub visit_eq : Visit → Visit → Bool
visit_eq a b = position_eq a.vertex b.vertex && pair_eq a.sides b.sides

-- the same are in two lists, however often
pub record HaveSame {A : Type 0} (xs ys : List A) : Type 0 where
  pub members : (w : A) → Has w xs ↔ Has w ys

-- the visit of a vertex that is between two others
abbrev pub visit_of : Pos → Pos → Pos → Visit
visit_of before here next = record { vertex = here; sides = pair_of before next }

-- each place of the list but the last, with its two neighbours, where `before` and `here` are in front
abbrev pub inner_from : Pos → Pos → List Pos → List Visit
inner_from before here [] = []
inner_from before here (next ∷ rest) = visit_of before here next ∷ inner_from here next rest

-- each inner place of a list with its two neighbours
abbrev pub inner_of : List Pos → List Visit
inner_of [] = []
inner_of (x ∷ []) = []
inner_of (x ∷ (y ∷ r)) = inner_from x y r

-- each place of a ring with its two neighbours
abbrev pub around_of : List Pos → List Visit
around_of r = inner_of (around r)

-- the first and the last place
abbrev pub ends_of : List Pos → List Pos
ends_of [] = []
ends_of (x ∷ []) = x ∷ []
ends_of (x ∷ (y ∷ r)) = x ∷ (last_of y r ∷ [])

-- two visits of one vertex that differ
abbrev pub clash : Visit → Visit → Bool
clash a b = position_eq a.vertex b.vertex && not (visit_eq a b)

-- the vertices of neighbours that clash, where `before` is in front
abbrev pub clashes_from : Visit → List Visit → List Pos
clashes_from before [] = []
clashes_from before (a ∷ l) = cond (clash a before) (a.vertex ∷ clashes_from a l) (clashes_from a l)

-- the vertices of neighbours that clash
abbrev pub clashes_of : List Visit → List Pos
clashes_of [] = []
clashes_of (a ∷ l) = clashes_from a l
