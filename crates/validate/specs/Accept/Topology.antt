-- Arcs and layers as a text has them.
use Rattle.std.specs.Prelude.{List, ◌++◌, map}
use Rattle.grid.specs.declared.pos.Pos.{Pos}
use Rattle.theory.specs.Lists.{gathered}
use Rattle.arcs.specs.Arcs.{Arcs}
use Rattle.validate.specs.Noding.{table_read}
use Rattle.validate.specs.ArcEnds.{line_ends}
use Rattle.validate.specs.FreeLoops.{ends_once, goes_free}
use Rattle.topo.specs.Parts.{LayerParts}
use Rattle.validate.specs.Accept.Laws.{AreValidLayers}
use Rattle.validate.specs.Accept.Lists.{layers_lines}
use Rattle.validate.specs.Accept.Order.{InOrder}

-- the table of arcs as they are: a closed arc is a free loop where no other arc ends at its seam, and no line
abbrev pub table_of : List (List Pos) → List LayerParts → Arcs
table_of arcs ls = table_read arcs (map (goes_free (gathered (line_ends arcs) (layers_lines ls) ++ gathered ends_once arcs)) arcs)

-- the layers are valid over the table's arcs, in order
pub record AreValidInOrder (t : Arcs) (ls : List LayerParts) : Type 0 where
  pub stand : AreValidLayers t ls
  pub order : InOrder t.arcs ls
