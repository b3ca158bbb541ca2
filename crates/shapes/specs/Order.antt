-- The order of features.
use Rattle.std.specs.Prelude.{ℕ}
use Rattle.std.specs.Ordering.{nat_cmp, int_cmp, ordering_then}
use Rattle.std.specs.Cmp.Lexicographic.{slice_cmp}
use Rattle.std.specs.declared.cmp.Ordering.{Ordering}
use Rattle.lines.specs.Turned.{position_cmp, list_cmp}
use Rattle.lines.specs.declared.line.Line as the_line
use Rattle.lines.specs.declared.ring.Ring as the_ring
use Rattle.shapes.specs.declared.shape.Id.{Id}
use Rattle.shapes.specs.declared.shape.Id.TheVariants.{None, Number, Text}
use Rattle.shapes.specs.Shapes.{Shape}
use Rattle.shapes.specs.declared.form.Form.{Form}
use Rattle.shapes.specs.declared.form.Form.TheVariants.{Null, Point, MultiPoint, Line, MultiLine, Polygon, MultiPolygon}
use Rattle.shapes.specs.declared.feature.Feature.{Feature}

abbrev pub id_rank : Id → ℕ
id_rank None = 0
id_rank (Number n) = 1
id_rank (Text t) = 2

-- no id, then numbers, then texts by their bytes
abbrev pub id_cmp : Id → Id → Ordering
id_cmp (Number m) (Number n) = int_cmp m n
id_cmp (Text s) (Text t) = slice_cmp nat_cmp s.text t.text
id_cmp a b = nat_cmp (id_rank a) (id_rank b)

-- the place of a kind among the seven
abbrev pub form_rank : {L R : Type 0} → Form L R → ℕ
form_rank Null = 0
form_rank (Point p) = 1
form_rank (MultiPoint ps) = 2
form_rank (Line l) = 3
form_rank (MultiLine ls) = 4
form_rank (Polygon rs) = 5
form_rank (MultiPolygon ps) = 6

-- by kind, then by the lists of positions, lines or rings, where lines and rings have these orders
abbrev pub form_cmp : {L R : Type 0} → (L → L → Ordering) → (R → R → Ordering) → Form L R → Form L R → Ordering
form_cmp of_line of_ring (Point p) (Point q) = position_cmp p q
form_cmp of_line of_ring (MultiPoint ps) (MultiPoint qs) = list_cmp ps qs
form_cmp of_line of_ring (Line k) (Line l) = of_line k l
form_cmp of_line of_ring (MultiLine ks) (MultiLine ls) = slice_cmp of_line ks ls
form_cmp of_line of_ring (Polygon ps) (Polygon qs) = slice_cmp of_ring ps qs
form_cmp of_line of_ring (MultiPolygon ps) (MultiPolygon qs) = slice_cmp (slice_cmp of_ring) ps qs
form_cmp of_line of_ring a b = nat_cmp (form_rank a) (form_rank b)

abbrev pub line_cmp : the_line.Line → the_line.Line → Ordering
line_cmp k l = list_cmp k.positions l.positions

abbrev pub ring_cmp : the_ring.Ring → the_ring.Ring → Ordering
ring_cmp q r = list_cmp q.positions r.positions

abbrev pub shape_rank : Shape → ℕ
shape_rank s = form_rank s

-- by type, then by the lists of positions
abbrev pub shape_cmp : Shape → Shape → Ordering
shape_cmp = form_cmp line_cmp ring_cmp

-- features by id, then by the bytes of the properties' text, then by shape
unfoldable pub feature_cmp : Feature → Feature → Ordering
feature_cmp a b = ordering_then (id_cmp a.id b.id) (ordering_then (slice_cmp nat_cmp a.props.text b.props.text) (shape_cmp a.shape b.shape))
