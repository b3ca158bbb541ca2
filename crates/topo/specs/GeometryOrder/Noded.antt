-- Arcs that are noded.
use Rattle.std.specs.Prelude.{◌≡◌, ◌≤◌, ℕ, List, Some, length, slice_get}
use Rattle.grid.specs.declared.pos.Pos.{Pos}
use Rattle.theory.specs.LinesAndRings.{Trail}
use Rattle.theory.specs.Lists.{Beside, Has}

-- each segment is at one place of one arc, and each arc has a segment [JTS (noding); own]
pub record AreNoded (arcs : List (List Pos)) : Type 0 where
  pub one_arc : (u v : Pos) (i j : ℕ) (c d : List Pos) → slice_get arcs i ≡ Some c → slice_get arcs j ≡ Some d → Beside u v c → Beside u v d → i ≡ j
  pub one_place : (c : List Pos) → Has c arcs → Trail c
  pub long : (c : List Pos) → Has c arcs → 2 ≤ length c
