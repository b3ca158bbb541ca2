-- Faults and meaning of positions, lines and rings of absolute numbers.
use Rattle.std.specs.Prelude.{ℤ, pos, List, [], ◌∷◌, map, Result, Ok, Err}
use Rattle.serde_json.specs.Data.{Data}
use Rattle.faults.specs.Fault.{Pair}
use Rattle.faults.specs.declared.fault.FaultKind.TheVariants as kind
use Rattle.grid.specs.Place.{Scaling, Transform}
use Rattle.grid.specs.Computed.{axis_number}
use Rattle.grid.specs.declared.pos.Pos.{Pos}
use Rattle.grid.specs.declared.transform.AxisFault.{AxisFault}
use Rattle.grid.specs.declared.transform.AxisFault.TheVariants.{OffGrid, OutOfRange}
use Rattle.reading.specs.Fault.{here, unless_faulty}
use Rattle.reading.specs.Parts.{pair_faults, list_faults, elements}
use Rattle.reading.specs.Numbers.{element_faults, whole_of}
use Rattle.reading.specs.Positions.{position_at}
use Rattle.reading.specs.Outlines.{line_faults, ring_faults, line_of, ring_of}

-- ---- numbers

abbrev pub grid_faults : Result ℤ AxisFault → List Pair
grid_faults (Err OffGrid) = here kind.OffGrid
grid_faults (Err OutOfRange) = here kind.OutOfRange
grid_faults (Ok n) = []

-- an absolute number is that of a grid number that fits
abbrev pub axis_faults : Scaling → ℤ → List Pair
axis_faults s a = grid_faults (axis_number s a)

-- the faults of one number of a position, on the grid of its element
abbrev pub coordinate_faults : Scaling → Data → List Pair
coordinate_faults s = element_faults (axis_faults s)

-- the grid number where there is one, else 0
abbrev pub number_or_zero : Result ℤ AxisFault → ℤ
number_or_zero (Ok n) = n
number_or_zero (Err f) = pos 0

-- the grid number of an element
abbrev pub grid_number : Scaling → Data → ℤ
grid_number s d = number_or_zero (axis_number s (whole_of d))

-- ---- positions

-- the faults of a position: two absolute numbers, each on the grid and in range [RFC 7946, 3.1.1; TopoJSON, 2.1.2]
abbrev pub position_faults : Transform → Data → List Pair
position_faults t = pair_faults (coordinate_faults t.x) (coordinate_faults t.y)

abbrev pub position_in : Transform → List Data → Pos
position_in t (x ∷ y ∷ []) = position_at (grid_number t.x x) (grid_number t.y y)
position_in t _ = position_at (pos 0) (pos 0)

-- the position on the grid [RFC 7946, 3.1.1; TopoJSON, 2.1.2]
abbrev pub position_of : Transform → Data → Pos
position_of t d = position_in t (elements d)

abbrev pub positions_faults : Transform → Data → List Pair
positions_faults t = list_faults (position_faults t)

-- the positions on the grid that the elements of an array mean
abbrev pub positions_of : Transform → Data → List Pos
positions_of t d = map (position_of t) (elements d)

-- ---- lines and rings

-- a list of positions, then what is asked of the list
abbrev pub outline_at_faults : Transform → (List Pos → List Pair) → Data → List Pair
outline_at_faults t of d = unless_faulty (positions_faults t d) (of (positions_of t d))

-- the faults of a line of absolute numbers [RFC 7946, 3.1.4]
abbrev pub line_at_faults : Transform → Data → List Pair
line_at_faults t = outline_at_faults t line_faults

abbrev pub line_at : Transform → Data → List Pos
line_at t d = line_of (positions_of t d)

-- the faults of a ring of absolute numbers [RFC 7946, 3.1.6]
abbrev pub ring_at_faults : Transform → Data → List Pair
ring_at_faults t = outline_at_faults t ring_faults

abbrev pub ring_at : Transform → Data → List Pos
ring_at t d = ring_of (positions_of t d)
