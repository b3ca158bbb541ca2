-- The positions of arcs, and of the points of geometries.
use Rattle.std.specs.Prelude.{ℕ, List, [], slice_get, unwrap_or}
use Rattle.grid.specs.declared.pos.Pos.{Pos}
use Rattle.theory.specs.Lists.{gathered}
use Rattle.theory.specs.Topology.{points_in}
use Rattle.topo.specs.OfMap.{body_of}
use Rattle.topo.specs.Parts.{LayerParts}
use Rattle.topo.specs.Bodies.{Body}
use Rattle.topo.specs.declared.geom.Geom.{Geom}

-- the positions of the points of a body [TopoJSON, 2.2.1 and 2.2.2]
abbrev pub body_points : Body → List Pos
body_points b = points_in (body_of b)

-- the positions of the points of a geometry
abbrev pub geometry_points : Geom → List Pos
geometry_points g = body_points g.body

-- the positions of the points of a layer's geometries [TopoJSON, 2.2.1 and 2.2.2]
abbrev pub layer_points : LayerParts → List Pos
layer_points l = gathered geometry_points l.geometries

-- the arc of a number, no positions where there is none [TopoJSON, 2.2.1 and 2.2.2]
abbrev pub arc_at : List (List Pos) → ℕ → List Pos
arc_at arcs n = unwrap_or (slice_get arcs n) []
