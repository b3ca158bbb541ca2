-- Where lines begin and end, by their used arcs.
use Rattle.std.specs.Prelude.{List, [], ◌∷◌}
use Rattle.grid.specs.declared.pos.Pos.{Pos}
use Rattle.theory.specs.ArcNumbers.{ArcRef}
use Rattle.theory.specs.Lists.{last_of}
use Rattle.topo.specs.Walked.{walked}

-- the last of a list, where there is one
abbrev pub last_alone : List Pos → List Pos
last_alone [] = []
last_alone (x ∷ l) = last_of x l ∷ []

-- the first of a list, and the last where it is another place
abbrev pub both_ends : List Pos → List Pos
both_ends [] = []
both_ends (x ∷ l) = x ∷ last_alone l

-- the ends of a line by its used arcs
abbrev pub line_ends : List (List Pos) → List ArcRef → List Pos
line_ends arcs used = both_ends (walked arcs used)
