-- What two tables are cut into, as contracts see it.
use Rattle.std.specs.Prelude.{ℕ, List}
use Rattle.theory.specs.ArcNumbers.{ArcRef}
use Rattle.arcs.specs.Arcs.{Arcs}
use Rattle.split_heal.specs.PartsOfAll.{RecutAllParts, of_table}
use Rattle.split_heal.specs.declared.split_lists.Side as sides
use Rattle.split_heal.specs.declared.split_lists.Side.TheVariants as of

-- the new table, and for each old arc of the left and of the right table its pieces
pub record RecutParts : Type 0 where
  pub arcs : Arcs
  pub left : List (List ArcRef)
  pub right : List (List ArcRef)

-- the pieces of the arcs of one side
abbrev pub of_side : sides.Side → RecutParts → List (List ArcRef)
of_side of.Left r = r.left
of_side of.Right r = r.right

-- the number of the table of a side
abbrev pub number_of : sides.Side → ℕ
number_of of.Left = 0
number_of of.Right = 1

-- the parts of what two tables are cut into, the left one first
abbrev pub both_parts : RecutAllParts → RecutParts
both_parts r = record { arcs = r.arcs; left = of_table 0 r; right = of_table 1 r }
