-- The segments of a list of positions, as `src/trail.rt` sorts them.
use Rattle.std.specs.Prelude.{List, [], ◌∷◌}
use Rattle.grid.specs.declared.pos.Pos.{Pos}
use Rattle.lines.specs.Pairs.{pair_of}
use Rattle.lines.specs.declared.pair.PositionPair.{PositionPair}

abbrev pub segments_from : Pos → List Pos → List PositionPair
segments_from x [] = []
segments_from x (y ∷ l) = pair_of x y ∷ segments_from y l

-- the pairs of neighbours, in the list's order
abbrev pub segments_of : List Pos → List PositionPair
segments_of [] = []
segments_of (x ∷ l) = segments_from x l
