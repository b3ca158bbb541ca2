-- What contracts see of a line and of a ring.
use Rattle.std.specs.Prelude.{List}
use Rattle.grid.specs.declared.pos.Pos.{Pos}
use Rattle.lines.specs.declared.line.Line.{Line}
use Rattle.lines.specs.declared.ring.Ring.{Ring}

-- the line's positions, from the first to the last [RFC 7946, 3.1.4 and 3.1.6]
abbrev pub positions_of : Line → List Pos
positions_of l = l.positions

-- the ring's vertices from its least rotation, without the closing repeat [RFC 7946, 3.1.4 and 3.1.6]
abbrev pub vertices_of : Ring → List Pos
vertices_of r = r.positions
