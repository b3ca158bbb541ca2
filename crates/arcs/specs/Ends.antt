-- Where used arcs begin and end.
use Rattle.std.specs.Prelude.{Bool, cond, List, [], ◌∷◌, Option, Some, None, slice_get}
use Rattle.grid.specs.declared.pos.Pos.{Pos}
use Rattle.theory.specs.ArcNumbers.{ArcRef}
use Rattle.theory.specs.Lists.{last_of}

-- the first and the last vertex, or the last and the first
abbrev pub ends_in : Bool → List Pos → Option (Pos × Pos)
ends_in reversed [] = None
ends_in reversed (x ∷ r) = Some (cond reversed (last_of x r, x) (x, last_of x r))

-- the same of an arc, where there is one
abbrev pub ends_if : Bool → Option (List Pos) → Option (Pos × Pos)
ends_if reversed None = None
ends_if reversed (Some c) = ends_in reversed c

-- the first and the last vertex along a used arc [TopoJSON, 2.1.4]
abbrev pub ends_along : List (List Pos) → ArcRef → Option (Pos × Pos)
ends_along arcs a = ends_if a.reversed (slice_get arcs a.arc)

-- the first of two ends
abbrev pub first_end : Option (Pos × Pos) → Option Pos
first_end None = None
first_end (Some e) = Some e.0
