-- What a test of positions says of the arcs of a table.
use Rattle.std.specs.Prelude.{Bool, List}
use Rattle.theory.specs.Lists.{Has}
use Rattle.grid.specs.declared.pos.Pos.{Pos}
use Rattle.lines.specs.Holding.{Holds}

-- it holds of all positions of the arcs
abbrev pub HoldAll : (Pos → Bool) → List (List Pos) → Type 0
HoldAll may arcs = (c : List Pos) → Has c arcs → Holds may c
