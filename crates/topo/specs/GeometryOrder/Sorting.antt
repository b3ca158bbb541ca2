-- Geometries sorted by the features that they stitch to.
use Rattle.std.specs.Prelude.{◌≡◌, Bool, List, Option}
use Rattle.std.specs.List.{dedup}
use Rattle.std.specs.List.Sorted.{IsPermutation, IsSorted}
use Rattle.grid.specs.declared.pos.Pos.{Pos}
use Rattle.topo.specs.GeometryOrder.{HaveFeatures, geometry_cmp}
use Rattle.topo.specs.contracts.geom.GeomPartialEq.TheImpl as geometry_eq
use Rattle.topo.specs.declared.geom.Geom.{Geom}
use Rattle.topo.specs.GeometryOrder.Keys.{by_key}
use Rattle.topo.specs.GeometryOrder.Noded.{AreNoded}
use Rattle.topo.specs.declared.geometry_order.least.LeastSteps.{LeastSteps}

-- the same geometries, in the order of their keys
pub record IsSortedByKey (arcs : List (List Pos)) (least : List (Option LeastSteps)) (old now : List Geom) : Type 0 where
  pub moved : IsPermutation old now
  pub order : IsSorted (by_key arcs least) now

-- whether id, properties and body are equal
abbrev pub same_geometry : Geom → Geom → Bool
same_geometry = geometry_eq.eq-value.it

-- the geometries in another order: over noded arcs, where each has a feature, in that of their features
pub record IsSortedAs (arcs : List (List Pos)) (old sorted : List Geom) : Type 0 where
  pub moved : IsPermutation old sorted
  pub order : AreNoded arcs → HaveFeatures arcs old → IsSorted (geometry_cmp arcs) sorted

-- the geometries sorted, and of equal ones that are neighbours then the first alone
abbrev pub AreSortedOnce : List (List Pos) → List Geom → List Geom → Type 0
AreSortedOnce arcs old now = (sorted : List Geom) × IsSortedAs arcs old sorted × (now ≡ dedup same_geometry sorted)
