-- The vertices inside arcs that are at another place of the arcs, too.
use Rattle.std.specs.Prelude.{List}
use Rattle.grid.specs.declared.pos.Pos.{Pos}
use Rattle.theory.specs.Lists.{EndOf, Has, Twice}

-- each vertex that is at two places of the list is among the others
abbrev pub HasTwice : List Pos → List Pos → Type 0
HasTwice again all = (v : Pos) → Twice v all → Has v again

-- some of the vertices inside arcs: of those that are at two places there both, and each at which an arc ends
pub record KeepsElsewhere (kept inside : List Pos) (arcs : List (List Pos)) : Type 0 where
  pub only : (v : Pos) → Has v kept → Has v inside
  pub only_twice : (v : Pos) → Twice v kept → Twice v inside
  pub twice : (v : Pos) → Twice v inside → Twice v kept
  pub ends : (c : List Pos) → Has c arcs → (v : Pos) → EndOf v c → Has v inside → Has v kept
