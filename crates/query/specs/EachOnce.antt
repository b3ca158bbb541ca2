-- Geometries each once.
use Rattle.std.specs.Prelude.{◌≡◌, ℕ, List, Some, slice_get, map as map_list}
use Rattle.std.specs.Borrow.{Bor}
use Rattle.theory.specs.Lists.{Has}
use Rattle.topo.specs.declared.geom.Geom.{Geom}

-- the geometries behind references
abbrev pub borrowed : List (Bor Geom) → List Geom
borrowed gs = map_list (λ g. g.now) gs

-- the same geometries, none at two indexes
pub record AreEachOnce (all kept : List Geom) : Type 0 where
  pub once : (i j : ℕ) (g : Geom) → slice_get kept i ≡ Some g → slice_get kept j ≡ Some g → i ≡ j
  pub there : (g : Geom) → Has g all → Has g kept
  pub only : (g : Geom) → Has g kept → Has g all
