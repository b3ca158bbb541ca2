-- Faults and meaning of what a geometry of each type is read from, by those of its positions, lines and rings.
use Rattle.std.specs.Prelude.{List, map}
use Rattle.serde_json.specs.Data.{Data}
use Rattle.faults.specs.Fault.{Pair}
use Rattle.grid.specs.declared.pos.Pos.{Pos}
use Rattle.theory.specs.Topology.{point, points, line, lines, polygon, polygons}
use Rattle.reading.specs.Parts.{list_faults, elements}
use Rattle.reading.specs.Plain.{PlainForm}
use Rattle.reading.specs.declared.geometry.GeometryType.{GeometryType}
use Rattle.reading.specs.declared.geometry.GeometryType.TheVariants.{Point, MultiPoint, LineString, MultiLineString, Polygon, MultiPolygon}

-- a position, a line, a ring, or lists of them
abbrev pub shape_faults : (Data → List Pair) → (Data → List Pair) → (Data → List Pair) → GeometryType → Data → List Pair
shape_faults at line_at ring_at Point = at
shape_faults at line_at ring_at MultiPoint = list_faults at
shape_faults at line_at ring_at LineString = line_at
shape_faults at line_at ring_at MultiLineString = list_faults line_at
shape_faults at line_at ring_at Polygon = list_faults ring_at
shape_faults at line_at ring_at MultiPolygon = list_faults (list_faults ring_at)

-- the shape of these positions, lines and rings
abbrev pub shape_form : (Data → Pos) → (Data → List Pos) → (Data → List Pos) → GeometryType → Data → PlainForm
shape_form at line_at ring_at Point d = point (at d)
shape_form at line_at ring_at MultiPoint d = points (map at (elements d))
shape_form at line_at ring_at LineString d = line (line_at d)
shape_form at line_at ring_at MultiLineString d = lines (map line_at (elements d))
shape_form at line_at ring_at Polygon d = polygon (map ring_at (elements d))
shape_form at line_at ring_at MultiPolygon d = polygons (map (λ p. map ring_at (elements p)) (elements d))
