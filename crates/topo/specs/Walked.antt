-- The positions that a list of used arcs stitches to, computed (TopoJSON section 2.1.4).
use Rattle.std.specs.Prelude.{List, [], ◌∷◌, ◌++◌, drop, unwrap_or}
use Rattle.theory.specs.ArcNumbers.{ArcRef, along}
use Rattle.grid.specs.declared.pos.Pos.{Pos}

-- the positions along a used arc; none where no arc has its number [TopoJSON, 2.1.4]
abbrev pub run_of : List (List Pos) → ArcRef → List Pos
run_of arcs a = unwrap_or (along arcs a) []

-- the arcs one after the other, each without its first position [TopoJSON, 2.1.4]
abbrev pub behind : List (List Pos) → List ArcRef → List Pos
behind arcs [] = []
behind arcs (a ∷ more) = drop 1 (run_of arcs a) ++ behind arcs more

-- the arcs one after the other, each but the first without its first position [TopoJSON, 2.1.4]
abbrev pub walked : List (List Pos) → List ArcRef → List Pos
walked arcs [] = []
walked arcs (a ∷ more) = run_of arcs a ++ behind arcs more
