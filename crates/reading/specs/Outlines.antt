-- Lines and rings of lists of positions.
use Rattle.std.specs.Prelude.{List, [], Option, Some, None}
use Rattle.grid.specs.declared.pos.Pos.{Pos}
use Rattle.lines.specs.Reading as read
use Rattle.lines.specs.Turned.{position_cmp}
use Rattle.lines.specs.declared.shape_fault.ShapeFault as shape
use Rattle.lines.specs.declared.shape_fault.ShapeFault.TheVariants as of
use Rattle.faults.specs.Fault.{Pair}
use Rattle.faults.specs.declared.fault.FaultKind.{FaultKind}
use Rattle.faults.specs.declared.fault.FaultKind.TheVariants as kind
use Rattle.reading.specs.Fault.{here}

-- the kind of error that a fault of a line or ring is
abbrev pub outline_kind : shape.ShapeFault → FaultKind
outline_kind of.TooShort = kind.TooShort
outline_kind of.NotClosed = kind.NotClosed
outline_kind of.Revisit = kind.Revisit
outline_kind of.OutOfMemory = kind.OutOfMemory

-- the fault of a line or ring, at the list itself; none where there is none
abbrev pub outline_faults : Option shape.ShapeFault → List Pair
outline_faults None = []
outline_faults (Some f) = here (outline_kind f)

-- why a list of positions is no line, told at the list [RFC 7946, 3.1; own]
abbrev pub line_faults : List Pos → List Pair
line_faults ps = outline_faults (read.line_fault position_cmp ps)

-- why a list of positions is no ring, told at the list [RFC 7946, 3.1; own]
abbrev pub ring_faults : List Pos → List Pair
ring_faults ps = outline_faults (read.ring_fault position_cmp ps)

-- the line: equal neighbours are read as one [RFC 7946, 3.1; own]
abbrev pub line_of : List Pos → List Pos
line_of = read.collapsed position_cmp

-- the ring: its least rotation, without the closing repeat [RFC 7946, 3.1; own]
abbrev pub ring_of : List Pos → List Pos
ring_of = read.ring_of position_cmp
