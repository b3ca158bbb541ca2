-- What many tables are cut into, as contracts see it.
use Rattle.std.specs.Prelude.{ℕ, List, Option, Some, None, slice_get}
use Rattle.theory.specs.ArcNumbers.{ArcRef}
use Rattle.arcs.specs.Arcs.{Arcs}
use Rattle.split_heal.specs.Bounds.{list_at}

-- the new table, and for each old table the pieces of each of its arcs
pub record RecutAllParts : Type 0 where
  pub arcs : Arcs
  pub lists : List (List (List ArcRef))

-- the pieces of the arcs of the table of a number
abbrev pub of_table : ℕ → RecutAllParts → List (List ArcRef)
of_table n r = list_at n r.lists

-- the list at a place, where there is one
abbrev pub at_place : List (List ArcRef) → Option ℕ → Option (List ArcRef)
at_place lists None = None
at_place lists (Some i) = slice_get lists i
