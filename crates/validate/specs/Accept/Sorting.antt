-- Layers whose geometries are sorted.
use Rattle.std.specs.Prelude.{◌≡◌, ◌↔◌, List}
use Rattle.grid.specs.declared.pos.Pos.{Pos}
use Rattle.theory.specs.Lists.{Has, Pairwise}
use Rattle.topo.specs.Parts.{LayerParts}
use Rattle.topo.specs.declared.geom.Geom.{Geom}
use Rattle.topo.specs.GeometryOrder.Sorting.{AreSortedOnce}

-- the same name, and the same geometries, in another order or not, and as many times or not
pub record IsReordered (l k : LayerParts) : Type 0 where
  pub name : k.name ≡ l.name
  pub geometries : (g : Geom) → Has g l.geometries ↔ Has g k.geometries

-- layer by layer, the same name, and the same geometries, in another order or not, and as many times or not
abbrev pub AreReordered : List LayerParts → List LayerParts → Type 0
AreReordered = Pairwise IsReordered

-- the same layer with its geometries in the order of the features that they stitch to, and equal ones once
pub record IsSortedLayer (arcs : List (List Pos)) (l k : LayerParts) : Type 0 where
  pub name : k.name ≡ l.name
  pub geometries : AreSortedOnce arcs l.geometries k.geometries

-- layer by layer, the geometries in the order of the features that they stitch to, and equal ones once
abbrev pub AreSorted : List (List Pos) → List LayerParts → List LayerParts → Type 0
AreSorted arcs = Pairwise (IsSortedLayer arcs)
