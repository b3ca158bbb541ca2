-- Geometries and shapes of lists of positions.
use Rattle.std.specs.Prelude.{List}
use Rattle.grid.specs.declared.pos.Pos.{Pos}
use Rattle.lines.specs.Seen.{positions_of, vertices_of}
use Rattle.shapes.specs.Forms.{form_map}
use Rattle.shapes.specs.Shapes as shapes
use Rattle.shapes.specs.declared.form.Form.{Form}
pub use Rattle.shapes.specs.declared.form.Form.TheVariants.{Null, Point, MultiPoint, Line, MultiLine, Polygon, MultiPolygon}
use Rattle.fixing.specs.declared.raw.RawGeometry.{RawGeometry}
use Rattle.fixing.specs.declared.raw.RawGeometry.TheVariants as geometry

-- a shape of lists of positions
abbrev pub RawShape : Type 0
RawShape = Form (List Pos) (List Pos)

-- a geometry: one shape, or the shapes of a GeometryCollection and of those inside it [RFC 7946, 3.1.8]
pub data PlainGeometry : Type 0 where
  one : RawShape → PlainGeometry
  collection : List RawShape → PlainGeometry

-- a geometry that is not judged yet
abbrev pub seen_geometry : RawGeometry → PlainGeometry
seen_geometry (geometry.One s) = one s
seen_geometry (geometry.Collection ss) = collection ss.items

-- a shape: a line by its positions, a ring by its vertices from the least rotation
abbrev pub plain_shape : shapes.Shape → RawShape
plain_shape s = form_map positions_of vertices_of s
