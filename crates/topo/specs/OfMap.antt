-- The topology of a feature map on a grid (TopoJSON section 2.1).
use Rattle.std.specs.Prelude.{List, map as map_list}
use Rattle.grid.specs.Place.{Transform}
use Rattle.grid.specs.declared.pos.Pos.{Pos}
use Rattle.lines.specs.Turned.{position_cmp}
use Rattle.shapes.specs.Maps.{Layers}
use Rattle.shapes.specs.Parts.{spelled_text}
use Rattle.arcs.specs.Arcs.{Arcs}
use Rattle.chains.specs.Seen.{Info, seen, geometry_of}
use Rattle.arcs.specs.Table.{IsTableOf}
use Rattle.theory.specs.Geometry.{JunctionOf}
use Rattle.theory.specs.Lists.{Pairwise}
use Rattle.theory.specs.Topology as topology
use Rattle.theory.specs.Topology.{Form, Item, Layer, Topology, IsTopologyOf, IsLayerOf, null, point, points, line, lines, polygon, polygons}
use Rattle.theory.specs.TopologyFunction.{topology_of}
use Rattle.topo.specs.Box.{box_of}
use Rattle.topo.specs.Parts.{Corners, LayerParts, TopologyParts}
use Rattle.shapes.specs.declared.form.Form as forms
use Rattle.shapes.specs.declared.form.Form.TheVariants as of
use Rattle.topo.specs.declared.geom.Geom.{Geom}

-- a body in the words of `theory`, with lines and rings of any type
abbrev pub body_of : {L R : Type 0} → forms.Form L R → Form Pos L R
body_of of.Null = null
body_of (of.Point p) = point p
body_of (of.MultiPoint ps) = points ps
body_of (of.Line used) = line used
body_of (of.MultiLine ls) = lines ls
body_of (of.Polygon rs) = polygon rs
body_of (of.MultiPolygon ps) = polygons ps

-- a geometry in the words of `theory`: its id and its properties, and its body
abbrev pub item_of : Geom → Item Info (topology.Body Pos)
item_of g = record { info = (g.id, g.props); form = body_of g.body }

-- a layer in the words of `theory`: the bytes of its name, and its geometries
abbrev pub layer_of : LayerParts → Layer (Item Info (topology.Body Pos))
layer_of l = record { name = spelled_text l.name; items = map_list item_of l.geometries }

-- a topology in the words of its definition
abbrev pub Seen : Type 0
Seen = Topology Transform Info Pos Corners

-- the parts of a topology in the words of `theory` [TopoJSON, 2.1 and 3]
abbrev pub seen_parts : TopologyParts → Seen
seen_parts t = record { grid = t.grid; arcs = t.arcs.arcs; layers = map_list layer_of t.layers; bbox = t.bbox }

-- t is the topology of the map on the grid [TopoJSON, 2.1 and 3]
abbrev pub IsTopology : Transform → Layers → Seen → Type 0
IsTopology g m t = IsTopologyOf position_cmp box_of g (seen m) t

-- the topology of the map on the grid, as a function
unfoldable pub the_topology : Transform → Layers → Seen
the_topology g m = topology_of position_cmp box_of g (seen m)

-- the table is that of the map, and each layer's geometries are those of the map's features [TopoJSON, 2.1]
pub record ArePartsOf (m : Layers) (t : Arcs) (ls : List LayerParts) : Type 0 where
  pub table : IsTableOf (geometry_of m) t
  pub layers : Pairwise (IsLayerOf position_cmp (JunctionOf (geometry_of m)) t.arcs) (seen m) (map_list layer_of ls)

-- the parts are those of the map, on the grid of the parts [TopoJSON, 2.1]
pub record IsOf (m : Layers) (t : TopologyParts) : Type 0 where
  pub topology : IsTopology t.grid m (seen_parts t)
  pub table : IsTableOf (geometry_of m) t.arcs

-- the parts are those of some map [TopoJSON, 2.1]
abbrev pub IsOfSomeMap : TopologyParts → Type 0
IsOfSomeMap t = (m : Layers) × IsOf m t
