-- Features as plain data, without the facts that lines, rings, texts and properties carry.
use Rattle.std.specs.Prelude.{ℕ, ℤ, List, map}
use Rattle.theory.specs.Topology.{Form, null, point, points, line, lines, polygon, polygons}
use Rattle.grid.specs.declared.pos.Pos.{Pos}
use Rattle.lines.specs.Seen.{positions_of, vertices_of}
use Rattle.shapes.specs.Parts.{spelled_text, properties_text}
use Rattle.shapes.specs.declared.shape.Id as ids
use Rattle.shapes.specs.declared.shape.Id.TheVariants as id
use Rattle.shapes.specs.Shapes as shapes
use Rattle.shapes.specs.declared.form.Form.TheVariants as shape
use Rattle.shapes.specs.declared.feature.Feature.{Feature}

-- an id: none, a number, or a text by its bytes
pub data PlainId : Type 0 where
  none : PlainId
  number : ℤ → PlainId
  text : List ℕ → PlainId

-- a shape: a line by its positions, a ring by its vertices from the least rotation
abbrev pub PlainForm : Type 0
PlainForm = Form Pos (List Pos) (List Pos)

-- an id, the bytes of the properties' compact text, and a shape
pub record Plain : Type 0 where
  pub id : PlainId
  pub properties : List ℕ
  pub form : PlainForm

-- an id as plain data
abbrev pub plain_id : ids.Id → PlainId
plain_id id.None = none
plain_id (id.Number n) = number n
plain_id (id.Text s) = text (spelled_text s)

-- a shape as plain data
abbrev pub plain_form : shapes.Shape → PlainForm
plain_form shape.Null = null
plain_form (shape.Point p) = point p
plain_form (shape.MultiPoint ps) = points ps
plain_form (shape.Line l) = line (positions_of l)
plain_form (shape.MultiLine ls) = lines (map positions_of ls)
plain_form (shape.Polygon rs) = polygon (map vertices_of rs)
plain_form (shape.MultiPolygon ps) = polygons (map (map vertices_of) ps)

-- the feature as plain data; different features differ in it
abbrev pub plain : Feature → Plain
plain f = record { id = plain_id f.id; properties = properties_text f.props; form = plain_form f.shape }
