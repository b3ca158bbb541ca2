-- The JSON value of a topology, whose compact text is the topology's canonical text.
use Rattle.std.specs.Prelude.{◌-ℤ◌, List, [], ◌∷◌, codes, Option, Some, None, option_map}
use Rattle.serde_json.specs.Data as json
use Rattle.serde_json.specs.Data.{Data, string, array, object, Members, no_members, member}
use Rattle.serde_json.specs.View.{items_of}
use Rattle.grid.specs.Place.{Transform}
use Rattle.grid.specs.declared.pos.Pos.{Pos}
use Rattle.shapes.specs.Parts.{properties_text}
use Rattle.theory.specs.ArcNumbers.{ArcRef, index_of}
use Rattle.theory.specs.Topology.{Item, Layer, Body, null, point, points, line, lines, polygon, polygons}
use Rattle.chains.specs.Seen.{Info}
use Rattle.topo.specs.OfMap.{Seen}
use Rattle.topo.specs.Parts.{Corners}
use Rattle.round_trip.specs.Compact.Values.{integer, list_data, pair_data, given, id_data, properties_data}

-- a position by its grid numbers
abbrev pub position_data : Pos → Data
position_data p = pair_data p.x p.y

-- each position as the difference from the one before
abbrev pub steps_from : Pos → List Pos → List Data
steps_from before [] = []
steps_from before (p ∷ ps) = pair_data (p.x -ℤ before.x) (p.y -ℤ before.y) ∷ steps_from p ps

-- the first position as it is, the others as differences
abbrev pub arc_steps : List Pos → List Data
arc_steps [] = []
arc_steps (p ∷ ps) = position_data p ∷ steps_from p ps

abbrev pub arc_data : List Pos → Data
arc_data ps = array (items_of (arc_steps ps))

-- a used arc by its index
abbrev pub index_data : ArcRef → Data
index_data a = integer (index_of a)

-- the member `arcs` of a geometry, of lines and polygons
abbrev pub used_data : Body Pos → Option Data
used_data null = None
used_data (point p) = None
used_data (points ps) = None
used_data (line used) = Some (list_data index_data used)
used_data (lines ls) = Some (list_data (list_data index_data) ls)
used_data (polygon rs) = Some (list_data (list_data index_data) rs)
used_data (polygons ps) = Some (list_data (list_data (list_data index_data)) ps)

-- the member `coordinates` of a geometry, of points
abbrev pub coordinates_data : Body Pos → Option Data
coordinates_data null = None
coordinates_data (point p) = Some (position_data p)
coordinates_data (points ps) = Some (list_data position_data ps)
coordinates_data (line used) = None
coordinates_data (lines ls) = None
coordinates_data (polygon rs) = None
coordinates_data (polygons ps) = None

-- the member `type` of a geometry
abbrev pub type_data : Body Pos → Data
type_data null = json.null
type_data (point p) = string (codes "Point")
type_data (points ps) = string (codes "MultiPoint")
type_data (line used) = string (codes "LineString")
type_data (lines ls) = string (codes "MultiLineString")
type_data (polygon rs) = string (codes "Polygon")
type_data (polygons ps) = string (codes "MultiPolygon")

abbrev pub type_member : Body Pos → Members
type_member b = member (codes "type") (type_data b) no_members

-- the members of a geometry behind `id`, behind `coordinates` and behind `arcs`
abbrev pub after_id : Item Info (Body Pos) → Members
after_id g = given (codes "properties") (properties_data (properties_text g.info.1)) (type_member g.form)

abbrev pub after_coordinates : Item Info (Body Pos) → Members
after_coordinates g = given (codes "id") (id_data g.info.0) (after_id g)

abbrev pub after_arcs : Item Info (Body Pos) → Members
after_arcs g = given (codes "coordinates") (coordinates_data g.form) (after_coordinates g)

abbrev pub geometry_data : Item Info (Body Pos) → Data
geometry_data g = object (given (codes "arcs") (used_data g.form) (after_arcs g))

abbrev pub layer_data : Layer (Item Info (Body Pos)) → Data
layer_data l = object (member (codes "geometries") (list_data geometry_data l.items) (member (codes "type") (string (codes "GeometryCollection")) no_members))

-- the members of `objects`
abbrev pub layers_data : List (Layer (Item Info (Body Pos))) → Members
layers_data [] = no_members
layers_data (l ∷ ls) = member l.name (layer_data l) (layers_data ls)

abbrev pub box_data : Corners → Data
box_data c = list_data integer (c.0 ∷ c.1 ∷ c.2 ∷ c.3 ∷ [])

abbrev pub transform_data : Transform → Data
transform_data t = object (member (codes "scale") (pair_data t.x.scale t.y.scale) (member (codes "translate") (pair_data t.x.translate t.y.translate) no_members))

-- the members of a topology behind `bbox`
abbrev pub after_box : Seen → Members
after_box t = member (codes "objects") (object (layers_data t.layers)) (member (codes "transform") (transform_data t.grid) (member (codes "type") (string (codes "Topology")) no_members))

-- the JSON value of a topology, whose compact text is its canonical text [TopoJSON, 2 and 3]
abbrev pub topology_data : Seen → Data
topology_data t = object (member (codes "arcs") (list_data arc_data t.arcs) (given (codes "bbox") (option_map box_data t.bbox) (after_box t)))
