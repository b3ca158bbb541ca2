-- The order of geometries: that of the features that they stitch to.
pub mod Least
pub mod Lists
pub mod Noded
pub mod Noted
pub mod Keys
pub mod Sorting
use Rattle.std.specs.Prelude.{ℕ, List}
use Rattle.std.specs.Cmp.Lexicographic.{slice_cmp}
use Rattle.std.specs.List.{AllByRecursion}
use Rattle.std.specs.Ordering.{nat_cmp, ordering_then}
use Rattle.std.specs.declared.cmp.Ordering.{Ordering}
use Rattle.grid.specs.declared.pos.Pos.{Pos}
use Rattle.lines.specs.Reading.{ring_of}
use Rattle.lines.specs.Turned.{position_cmp, list_cmp}
use Rattle.shapes.specs.Forms.{form_map}
use Rattle.shapes.specs.Order.{id_cmp}
use Rattle.theory.specs.ArcNumbers.{ArcRef}
use Rattle.theory.specs.Topology.{Form, Shape, null, point, points, line, lines, polygon, polygons}
use Rattle.topo.specs.Features.{HasFeature}
use Rattle.topo.specs.OfMap.{body_of}
use Rattle.topo.specs.Parts.{LayerParts}
use Rattle.topo.specs.Walked.{walked}
use Rattle.topo.specs.Bodies.{Body}
use Rattle.topo.specs.declared.geom.Geom.{Geom}

-- the vertices of a ring of used arcs, from the least rotation
abbrev pub vertices_used : List (List Pos) → List ArcRef → List Pos
vertices_used arcs used = ring_of position_cmp (walked arcs used)

-- a body with its lines as the positions that they stitch to, and its rings as their vertices from the least rotation
abbrev pub body_form : List (List Pos) → Body → Shape Pos
body_form arcs b = body_of (form_map (walked arcs) (vertices_used arcs) b)

-- the number of a form's kind, in the order of kinds
abbrev pub form_rank : {V L R : Type 0} → Form V L R → ℕ
form_rank null = 0
form_rank (point p) = 1
form_rank (points ps) = 2
form_rank (line l) = 3
form_rank (lines ls) = 4
form_rank (polygon rs) = 5
form_rank (polygons ps) = 6

-- the number of a body's kind
abbrev pub body_rank : Body → ℕ
body_rank b = form_rank (body_of b)

-- by kind, then by the lists of positions
abbrev pub form_cmp : Shape Pos → Shape Pos → Ordering
form_cmp (point p) (point q) = position_cmp p q
form_cmp (points ps) (points qs) = list_cmp ps qs
form_cmp (line k) (line l) = list_cmp k l
form_cmp (lines ks) (lines ls) = slice_cmp list_cmp ks ls
form_cmp (polygon rs) (polygon qs) = slice_cmp list_cmp rs qs
form_cmp (polygons ps) (polygons qs) = slice_cmp (slice_cmp list_cmp) ps qs
form_cmp f h = nat_cmp (form_rank f) (form_rank h)

-- by id and properties
abbrev pub info_cmp : Geom → Geom → Ordering
info_cmp a b = ordering_then (id_cmp a.id b.id) (slice_cmp nat_cmp a.props.text b.props.text)

-- then by kind
abbrev pub kind_cmp : Geom → Geom → Ordering
kind_cmp a b = ordering_then (info_cmp a b) (nat_cmp (body_rank a.body) (body_rank b.body))

-- by id, properties, and what the bodies stitch to
unfoldable pub geometry_cmp : List (List Pos) → Geom → Geom → Ordering
geometry_cmp arcs a b = ordering_then (info_cmp a b) (form_cmp (body_form arcs a.body) (body_form arcs b.body))

-- each geometry stitches to a feature
abbrev pub HaveFeatures : List (List Pos) → List Geom → Type 0
HaveFeatures arcs gs = AllByRecursion (HasFeature arcs) gs

-- the same of the geometries of each layer
abbrev pub LayersHaveFeatures : List (List Pos) → List LayerParts → Type 0
LayersHaveFeatures arcs ls = AllByRecursion (λ l. HaveFeatures arcs l.geometries) ls
