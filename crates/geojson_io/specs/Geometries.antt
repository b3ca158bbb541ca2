-- Faults and meaning of geometries.
use Rattle.std.specs.Prelude.{List, Result, Ok, Err, codes}
use Rattle.serde_json.specs.Data.{Data}
use Rattle.serde_json.specs.Find.{as_object}
use Rattle.faults.specs.Fault.{Pair}
use Rattle.faults.specs.declared.fault.FaultKind.{FaultKind}
use Rattle.theory.specs.Topology.{null}
use Rattle.grid.specs.Place.{Transform}
use Rattle.reading.specs.Parts.{member_faults, object_faults, typed_faults}
use Rattle.reading.specs.Info.{member_or_null}
use Rattle.reading.specs.Plain.{PlainForm}
use Rattle.reading.specs.Shapes.{shape_faults, shape_form}
use Rattle.reading.specs.Types.{geometry_type}
use Rattle.reading.specs.declared.geometry.GeometryType.{GeometryType}
use Rattle.geojson_io.specs.Positions.{position_faults, position_of, line_at_faults, line_at, ring_at_faults, ring_at}

-- the faults of `coordinates`, by the geometry's type
abbrev pub coordinates_faults : Transform → GeometryType → Data → List Pair
coordinates_faults t = shape_faults (position_faults t) (line_at_faults t) (ring_at_faults t)

-- the shape that `coordinates` mean
abbrev pub form_of : Transform → GeometryType → Data → PlainForm
form_of t = shape_form (position_of t) (line_at t) (ring_at t)

-- a geometry whose type is known [RFC 7946, 3.1]
abbrev pub typed_geometry_faults : Transform → GeometryType → Data → List Pair
typed_geometry_faults t k = member_faults (codes "coordinates") (coordinates_faults t k)

-- the shape that a geometry's `coordinates` mean, by its type [RFC 7946, 3.1]
abbrev pub typed_form : Transform → GeometryType → Data → PlainForm
typed_form t k d = form_of t k (member_or_null (codes "coordinates") d)

-- an object with a type and coordinates
abbrev pub geometry_faults : Transform → Data → List Pair
geometry_faults t d = object_faults (typed_faults (λ k. typed_geometry_faults t k d) (geometry_type d)) (as_object d)

abbrev pub form_by : Transform → Data → Result GeometryType FaultKind → PlainForm
form_by t d (Err k) = null
form_by t d (Ok k) = typed_form t k d

-- null is the null shape
abbrev pub geometry_form : Transform → Data → PlainForm
geometry_form t d = form_by t d (geometry_type d)
