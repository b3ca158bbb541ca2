-- Where arcs and lines end, and where enough of them meet.
use Rattle.std.specs.Prelude.{cond, List, [], ◌∷◌, ◌⊎◌, Option, Some, None}
use Rattle.grid.specs.declared.pos.Pos.{Pos}
use Rattle.lines.specs.Pairs.{position_eq}
use Rattle.theory.specs.ArcNumbers.{ArcRef}
use Rattle.theory.specs.Geometry.{Geometry, IsLineOf}
use Rattle.theory.specs.Lists.{EndOf, Has, last_of}
use Rattle.theory.specs.Validity.{ThreeBegin}
use Rattle.arcs.specs.Ends.{ends_along}

-- the first of two ends, and the last of two others, where there are such
abbrev pub from_to : Option (Pos × Pos) → Option (Pos × Pos) → List Pos
from_to None e = []
from_to (Some s) None = []
from_to (Some s) (Some e) = s.0 ∷ (e.1 ∷ [])

-- where a list of used arcs begins and ends [TopoJSON, 2.1.4]
abbrev pub line_ends : List (List Pos) → List ArcRef → List Pos
line_ends arcs [] = []
line_ends arcs (a ∷ refs) = from_to (ends_along arcs a) (ends_along arcs (last_of a refs))

-- the first and the last vertex of an arc
abbrev pub both_ends : List Pos → List Pos
both_ends [] = []
both_ends (x ∷ r) = x ∷ (last_of x r ∷ [])

-- the vertices that are equal to the one before, where `before` is in front
abbrev pub again_from : Pos → List Pos → List Pos
again_from before [] = []
again_from before (x ∷ l) = cond (position_eq x before) (x ∷ again_from x l) (again_from x l)

-- the vertices of a sorted list, each once less often
abbrev pub again : List Pos → List Pos
again [] = []
again (x ∷ l) = again_from x l

-- each end of an arc that is not free is one of the lines' ends, or three ends of arcs meet there
abbrev pub EndsMeet : {V : Type 0} → List (List V) → Geometry V → List V → Type 0
EndsMeet {V} arcs a ends = (l : List V) → IsLineOf a l → (v : V) → EndOf v l → Has v ends ⊎ ThreeBegin arcs v
