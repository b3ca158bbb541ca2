-- A table of arcs as contracts see it.
use Rattle.std.specs.Prelude.{List}
use Rattle.grid.specs.declared.pos.Pos.{Pos}

-- the arcs by their numbers, and those of them that are free loops [TopoJSON, 2; own]
pub record Arcs : Type 0 where
  pub arcs : List (List Pos)
  pub loops : List (List Pos)
