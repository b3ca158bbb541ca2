-- The arcs of what is left of a map.
use Rattle.std.specs.Prelude.{◌≡◌, ◌↔◌, ℕ, Bool, true, List, Some, slice_get}
use Rattle.theory.specs.Geometry.{Geometry, IsSound}
use Rattle.theory.specs.Lists.{Has}
use Rattle.theory.specs.Refinement.{IsPartOf, IsRefinementOf}
use Rattle.theory.specs.Healing.{IsKept, IsLineEnd}
use Rattle.grid.specs.declared.pos.Pos.{Pos}
use Rattle.lines.specs.Turned.{position_cmp}
use Rattle.arcs.specs.Arcs.{Arcs}
use Rattle.arcs.specs.Table.{IsTableOf}
use Rattle.split_heal.specs.HealedParts.{HealedParts}

-- g is a part of the map u that the old table is of: the marks say which old arcs it uses, and the ends where its lines begin and end
pub record IsLeftBy (g u : Geometry Pos) (old : Arcs) (marks : List Bool) (ending : List Pos) : Type 0 where
  pub sound : IsSound u
  pub table : IsTableOf u old
  pub part : IsPartOf g u
  pub kept : (k : ℕ) → (slice_get marks k ≡ Some true) ↔ IsKept position_cmp g u old.arcs k
  pub ends : (v : Pos) → Has v ending ↔ IsLineEnd g old.arcs v

-- the new table is that of g, and its arcs are cut into old ones
pub record IsHealedOf (g u : Geometry Pos) (old : Arcs) (r : HealedParts) : Type 0 where
  pub table : IsTableOf g r.arcs
  pub refined : IsRefinementOf position_cmp g u r.arcs.arcs old.arcs r.pieces
