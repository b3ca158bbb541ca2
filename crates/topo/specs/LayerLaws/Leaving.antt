-- Which geometries of a topology's layers stay when the features of a map are taken out: one pass over both, each in the order of features.
use Rattle.std.specs.Prelude.{Bool, false, cond, List, [], ◌∷◌}
use Rattle.std.specs.Cmp.Lexicographic.{slice_cmp}
use Rattle.std.specs.Ordering.{is_eq, is_gt, nat_cmp, ordering_then}
use Rattle.std.specs.declared.cmp.Ordering.{Ordering}
use Rattle.grid.specs.declared.pos.Pos.{Pos}
use Rattle.shapes.specs.Maps.{Layers, features_at}
use Rattle.shapes.specs.Order.{id_cmp}
use Rattle.shapes.specs.Parts.{spelled_text}
use Rattle.shapes.specs.Sets as set
use Rattle.shapes.specs.declared.feature.Feature.{Feature}
use Rattle.chains.specs.Seen.{form_of}
use Rattle.topo.specs.Parts.{LayerParts}
use Rattle.topo.specs.declared.geom.Geom.{Geom}
use Rattle.topo.specs.GeometryOrder.{body_form, form_cmp}

-- how a geometry compares with a feature by id and properties
abbrev pub info_to : Geom → Feature → Ordering
info_to g f = ordering_then (id_cmp g.id f.id) (slice_cmp nat_cmp g.props.text f.props.text)

-- the same, then by what the body stitches to
unfoldable pub order_to : List (List Pos) → Geom → Feature → Ordering
order_to arcs g f = ordering_then (info_to g f) (form_cmp (body_form arcs g.body) (form_of f.shape))

-- a sorted list from its first member on that does not are before x
abbrev pub from_on : {A B : Type 0} → (A → B → Ordering) → A → List B → List B
from_on cmp x [] = []
from_on cmp x (y ∷ ys) = cond (is_gt (cmp x y)) (from_on cmp x ys) (y ∷ ys)

-- whether x ties with the first
abbrev pub is_first : {A B : Type 0} → (A → B → Ordering) → A → List B → Bool
is_first cmp x [] = false
is_first cmp x (y ∷ ys) = is_eq (cmp x y)

-- the members of the one sorted list that tie with none of the other
abbrev pub others : {A B : Type 0} → (A → B → Ordering) → List A → List B → List A
others cmp [] ys = []
others cmp (x ∷ xs) ys = cond (is_first cmp x (from_on cmp x ys)) (others cmp xs (from_on cmp x ys)) (x ∷ others cmp xs (from_on cmp x ys))

-- a layer without the geometries of the features that r has under its name
abbrev pub layer_less : List (List Pos) → Layers → LayerParts → LayerParts
layer_less arcs r l = record { name = l.name; geometries = others (order_to arcs) l.geometries (set.items (features_at r (spelled_text l.name))) }
