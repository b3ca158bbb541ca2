-- A layer and a topology, as contracts see them.
use Rattle.std.specs.Prelude.{◌≡◌, ℕ, ℤ, List, Option}
use Rattle.grid.specs.Place.{Transform}
use Rattle.shapes.specs.declared.spelled.Spelled.{Spelled}
use Rattle.shapes.specs.Parts.{spelled_text}
use Rattle.arcs.specs.Arcs.{Arcs}
use Rattle.theory.specs.Lists.{Has}
use Rattle.topo.specs.declared.geom.Geom.{Geom}

-- least x, least y, greatest x, greatest y
abbrev pub Corners : Type 0
Corners = ℤ × ℤ × ℤ × ℤ

-- a layer's name and its geometries in order [TopoJSON, 2.1]
pub record LayerParts : Type 0 where
  pub name : Spelled
  pub geometries : List Geom

-- the grid, the table of arcs, the layers in order, and the bounding box [TopoJSON, 2.1]
pub record TopologyParts : Type 0 where
  pub grid : Transform
  pub arcs : Arcs
  pub layers : List LayerParts
  pub bbox : Option Corners

-- the geometries are those of a layer of that name [TopoJSON, 2.1]
abbrev pub IsOfLayerNamed : List LayerParts → List ℕ → List Geom → Type 0
IsOfLayerNamed ls name gs = (l : LayerParts) × Has l ls × (spelled_text l.name ≡ name) × (gs ≡ l.geometries)
