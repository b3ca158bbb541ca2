-- The lines and rings of a map, cut.
use Rattle.std.specs.Prelude.{◌≡◌, List}
use Rattle.grid.specs.declared.pos.Pos.{Pos}
use Rattle.shapes.specs.Maps.{Layers}
use Rattle.chains.specs.Index.{IsIndexOf}
use Rattle.chains.specs.Seen.{seen, geometry_of}
use Rattle.theory.specs.Lists.{gathered}
use Rattle.theory.specs.Topology.{forms_of}
use Rattle.topo.specs.Building.{form_pieces, form_counts}
use Rattle.topo.specs.declared.cuts.Cuts as made

-- all pieces of the map's lines and rings, cut at its junctions, and how many each line and ring has
pub record AreCutsOf (m : Layers) (c : made.Cuts) : Type 0 where
  pub junctions : List Pos
  pub index : IsIndexOf junctions (geometry_of m)
  pub pieces : c.pieces.items ≡ gathered (form_pieces junctions) (forms_of (seen m))
  pub counts : c.counts.items ≡ gathered (form_counts junctions) (forms_of (seen m))
