-- Which new arcs the old ones of many tables become.
use Rattle.std.specs.Prelude.{◌≡◌, ℕ, List, Some, slice_get}
use Rattle.theory.specs.Geometry.{Geometry}
use Rattle.theory.specs.Refinement.{IsRefinementOf}
use Rattle.grid.specs.declared.pos.Pos.{Pos}
use Rattle.lines.specs.Turned.{position_cmp}
use Rattle.arcs.specs.Arcs.{Arcs}
use Rattle.arcs.specs.Table.{IsTableOf}
use Rattle.split_heal.specs.PartsOfAll.{RecutAllParts, of_table}

-- the table is that of u, which the maps make together, and the arcs of each map's table are cut into its arcs
pub record IsRecutOfAll (maps : List (Geometry Pos)) (u : Geometry Pos) (tables : List Arcs) (r : RecutAllParts) : Type 0 where
  pub table : IsTableOf u r.arcs
  pub of_each : (i : ℕ) (m : Geometry Pos) (t : Arcs) → slice_get maps i ≡ Some m → slice_get tables i ≡ Some t →
      IsRefinementOf position_cmp m u t.arcs r.arcs.arcs (of_table i r)
