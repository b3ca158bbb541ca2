-- A feature map as the definitions of the topology see it, and its lines and rings.
use Rattle.std.specs.Prelude.{ℕ, List, map as map_list}
use Rattle.shapes.specs.Sets as set
use Rattle.std.specs.FinMap as map
use Rattle.grid.specs.declared.pos.Pos.{Pos}
use Rattle.lines.specs.declared.line.Line as lines_of
use Rattle.lines.specs.declared.ring.Ring as rings_of
use Rattle.lines.specs.Seen.{positions_of, vertices_of}
use Rattle.shapes.specs.Maps.{Layers, Features}
use Rattle.shapes.specs.declared.props.Props.{Props}
use Rattle.shapes.specs.declared.shape.Id.{Id}
use Rattle.shapes.specs.Shapes as shapes
use Rattle.shapes.specs.declared.form.Form.TheVariants as of
use Rattle.shapes.specs.declared.feature.Feature.{Feature}
use Rattle.theory.specs.Geometry.{Geometry}
use Rattle.theory.specs.Topology as topology
use Rattle.theory.specs.Topology.{Form, Shape, Item, Layer, Map, null, point, points, line, lines, polygon, polygons}

-- what a feature keeps beside its shape: its id and its properties
abbrev pub Info : Type 0
Info = Id × Props

-- the positions of a line [RFC 7946, 3.1.4 and 3.1.6]
abbrev pub line_of : lines_of.Line → List Pos
line_of l = positions_of l

-- the vertices of a ring, from its least rotation [RFC 7946, 3.1.4 and 3.1.6]
abbrev pub ring_of : rings_of.Ring → List Pos
ring_of r = vertices_of r

-- a shape whose lines and rings are lists of vertices
abbrev pub form_of : shapes.Shape → Shape Pos
form_of of.Null = null
form_of (of.Point p) = point p
form_of (of.MultiPoint ps) = points ps
form_of (of.Line l) = line l.positions
form_of (of.MultiLine ls) = lines (map_list line_of ls)
form_of (of.Polygon rs) = polygon (map_list ring_of rs)
form_of (of.MultiPolygon ps) = polygons (map_list (map_list ring_of) ps)

-- a feature: id and properties, and its form
abbrev pub item_of : Feature → Item Info (Shape Pos)
item_of f = record { info = (f.id, f.props); form = form_of f.shape }

-- a layer: its name, and its features in order
abbrev pub layer_of : List ℕ × Features → Layer (Item Info (Shape Pos))
layer_of e = record { name = e.0; items = map_list item_of (set.items e.1) }

-- the layers in the order of their names, each with its features in order [TopoJSON, 2; own]
abbrev pub seen : Layers → Map Info Pos
seen m = map_list layer_of (map.entries m)

-- the lines and the rings of a map [TopoJSON, 2; own]
abbrev pub geometry_of : Layers → Geometry Pos
geometry_of m = topology.geometry_of (seen m)
