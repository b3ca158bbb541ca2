-- What is left of a table of arcs, as contracts see it.
use Rattle.std.specs.Prelude.{List}
use Rattle.theory.specs.ArcNumbers.{ArcRef}
use Rattle.arcs.specs.Arcs.{Arcs}

-- the new table, and for each of its arcs the old ones that it was joined of
pub record HealedParts : Type 0 where
  pub arcs : Arcs
  pub pieces : List (List ArcRef)
