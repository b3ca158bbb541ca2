-- The JSON value of a FeatureCollection, whose compact text is what is written.
use Rattle.std.specs.Prelude.{ℕ, List, codes}
use Rattle.serde_json.specs.Data as json
use Rattle.serde_json.specs.Data.{Data, string, object, Members, no_members, member}
use Rattle.grid.specs.Place.{Transform}
use Rattle.grid.specs.Fits.{absolute_place}
use Rattle.grid.specs.declared.pos.Pos.{Pos}
use Rattle.lines.specs.Seen.{positions_of, vertices_of}
use Rattle.lines.specs.declared.line.Line as the_line
use Rattle.lines.specs.declared.ring.Ring as the_ring
use Rattle.shapes.specs.Parts.{properties_text}
use Rattle.shapes.specs.Properties.{properties_value}
use Rattle.shapes.specs.Shapes.{Shape}
use Rattle.shapes.specs.declared.form.Form.TheVariants as shape
use Rattle.shapes.specs.declared.feature.Feature.{Feature}
use Rattle.theory.specs.LinesAndRings.{closed}
use Rattle.round_trip.specs.Compact.Values.{list_data, pair_data, given, id_data}

-- a position by its absolute numbers
abbrev pub place_data : Transform → Pos → Data
place_data t p = pair_data (absolute_place t p).0 (absolute_place t p).1

-- a line as it is
abbrev pub line_data : Transform → the_line.Line → Data
line_data t l = list_data (place_data t) (positions_of l)

-- a ring from its least rotation, with the first position repeated at the end
abbrev pub ring_data : Transform → the_ring.Ring → Data
ring_data t r = list_data (place_data t) (closed (vertices_of r))

-- coordinates and the name of their type
abbrev pub geometry_data : Data → List ℕ → Data
geometry_data coordinates name = object (member (codes "coordinates") coordinates (member (codes "type") (string name) no_members))

-- a geometry, or null
abbrev pub shape_data : Transform → Shape → Data
shape_data t shape.Null = json.null
shape_data t (shape.Point p) = geometry_data (place_data t p) (codes "Point")
shape_data t (shape.MultiPoint ps) = geometry_data (list_data (place_data t) ps) (codes "MultiPoint")
shape_data t (shape.Line l) = geometry_data (line_data t l) (codes "LineString")
shape_data t (shape.MultiLine ls) = geometry_data (list_data (line_data t) ls) (codes "MultiLineString")
shape_data t (shape.Polygon rs) = geometry_data (list_data (ring_data t) rs) (codes "Polygon")
shape_data t (shape.MultiPolygon ps) = geometry_data (list_data (list_data (ring_data t)) ps) (codes "MultiPolygon")

-- the members of a feature behind `id`
abbrev pub after_id : Feature → Members
after_id f = member (codes "properties") (properties_value (properties_text f.props)) (member (codes "type") (string (codes "Feature")) no_members)

-- the members of a feature behind `geometry`
abbrev pub after_geometry : Feature → Members
after_geometry f = given (codes "id") (id_data f.id) (after_id f)

abbrev pub feature_data : Transform → Feature → Data
feature_data t f = object (member (codes "geometry") (shape_data t f.shape) (after_geometry f))

-- the features in order [RFC 7946, 3]
abbrev pub collection_data : Transform → List Feature → Data
collection_data t fs = object (member (codes "features") (list_data (feature_data t) fs) (member (codes "type") (string (codes "FeatureCollection")) no_members))
