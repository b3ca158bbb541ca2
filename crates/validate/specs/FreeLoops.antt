-- Closed arcs at whose seam nothing else ends.
use Rattle.std.specs.Prelude.{Bool, false, cond, not, ◌&&◌, ◌↔◌, List, [], ◌∷◌}
use Rattle.grid.specs.declared.pos.Pos.{Pos}
use Rattle.lines.specs.Pairs.{position_eq}
use Rattle.lines.specs.Reading.{is_closed}
use Rattle.lines.specs.Turned.{position_cmp}
use Rattle.theory.specs.Geometry.{Geometry, IsLineOf}
use Rattle.theory.specs.Lists.{EndOf, Has, last_of}
use Rattle.arcs.specs.Among.{among}

-- the ends of a list; of a closed one its first vertex alone
abbrev pub ends_once : List Pos → List Pos
ends_once [] = []
ends_once (x ∷ r) = x ∷ cond (is_closed position_cmp (x ∷ r)) [] (last_of x r ∷ [])

-- whether the vertex is at exactly one place
abbrev pub occurs_once : List Pos → Pos → Bool
occurs_once [] v = false
occurs_once (x ∷ l) v = cond (position_eq v x) (not (among l v)) (occurs_once l v)

-- whether the list is closed, and its first vertex occurs once among some ends
abbrev pub goes_free : List Pos → List Pos → Bool
goes_free ends [] = false
goes_free ends (x ∷ r) = is_closed position_cmp (x ∷ r) && occurs_once ends x

-- the vertices are the ends of the map's lines
abbrev pub AreLineEnds : {V : Type 0} → List V → Geometry V → Type 0
AreLineEnds {V} ends g = (v : V) → Has v ends ↔ ((l : List V) × IsLineOf g l × EndOf v l)
