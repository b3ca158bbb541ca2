-- The texts of positions, arcs and used arcs.
use Rattle.std.specs.Prelude.{ℕ, ◌-ℤ◌, List, [], ◌∷◌, ◌++◌, codes}
use Rattle.std.specs.Fmt.{signed_decimal}
use Rattle.grid.specs.declared.pos.Pos.{Pos}
use Rattle.sinks.specs.Texts.{bracketed, pair_text}
use Rattle.theory.specs.ArcNumbers.{ArcRef, index_of}

-- a position by its grid numbers
abbrev pub position_text : Pos → List ℕ
position_text p = pair_text p.x p.y

-- the difference of a position from the one before, after a comma
abbrev pub difference_text : Pos → Pos → List ℕ
difference_text before p = codes "," ++ pair_text (p.x -ℤ before.x) (p.y -ℤ before.y)

-- each position as the difference from the one before [TopoJSON, 2.1.3]
abbrev pub differences_text : Pos → List Pos → List ℕ
differences_text before [] = []
differences_text before (p ∷ ps) = difference_text before p ++ differences_text p ps

-- the positions of an arc: the first as it is, the others as differences
abbrev pub arc_positions : List Pos → List ℕ
arc_positions [] = []
arc_positions (p ∷ ps) = position_text p ++ differences_text p ps

-- an arc: its first position as it is, each later one as the difference from the one before [TopoJSON, 2.1.3]
abbrev pub arc_text : List Pos → List ℕ
arc_text ps = bracketed (arc_positions ps)

-- a used arc by its index [TopoJSON, 2.1.4]
abbrev pub index_text : ArcRef → List ℕ
index_text a = signed_decimal (index_of a)
