-- What lines and the JSON object say of differences.
use Rattle.std.specs.Prelude.{ℕ, Bool, true, false, List, [], ◌∷◌, ◌++◌, ◌||◌, None, Option, Some, String, codes, cond, length, nat_lt, not, slice_get, string_bytes}
use Rattle.std.specs.Ordering.{is_eq}
use Rattle.std.specs.declared.alloc.Global.{Global}
use Rattle.compare.specs.Compared.{geometries_from}
use Rattle.shapes.specs.Order.{id_cmp}
use Rattle.shapes.specs.Parts.{spelled_text}
use Rattle.shapes.specs.Spelling.{spelling_of}
use Rattle.shapes.specs.declared.shape.Id.{Id}
use Rattle.topo.specs.Parts.{LayerParts, TopologyParts}
use Rattle.topo.specs.Bodies.{Body}
use Rattle.shapes.specs.declared.form.Form.TheVariants as of
use Rattle.topo.specs.declared.geom.Geom.{Geom}
use Rattle.difference_text.specs.declared.difference.LayerChanges.{LayerChanges}
use Rattle.difference_text.specs.declared.parts.LayerView.{LayerView}

-- what is told of the layers of a name: the name as JSON, the geometries that each topology has there, whether features pair by a property, and what differs
pub record LayerReport : Type 0 where
  pub name : List ℕ
  pub olds : List Geom
  pub news : List Geom
  pub keyed : Bool
  pub changes : LayerChanges

-- the layer of a number, none where there is none
abbrev pub layer_in : List LayerParts → Option ℕ → Option LayerParts
layer_in ls None = None
layer_in ls (Some k) = slice_get ls k

-- the name of the old layer as JSON, or of the new one where there is no old one
abbrev pub layer_name : Option LayerParts → Option LayerParts → List ℕ
layer_name (Some l) other = spelling_of (spelled_text l.name)
layer_name None (Some l) = spelling_of (spelled_text l.name)
layer_name None None = []

-- what is told of the layers of two topologies between which that differs
abbrev pub layer_report : Bool → TopologyParts → TopologyParts → LayerChanges → LayerReport
layer_report keyed old new l = record {
  name = layer_name (layer_in old.layers l.layers.old) (layer_in new.layers l.layers.new);
  olds = geometries_from old.layers l.layers.old;
  news = geometries_from new.layers l.layers.new;
  keyed = keyed;
  changes = l;
}

-- the same of a view of them
abbrev pub report_of : LayerView → LayerReport
report_of v = record { name = v.name.now; olds = v.olds.now; news = v.news.now; keyed = v.is_keyed; changes = v.changes.now }

-- a compact text, or other words where it is missing
abbrev pub text_or : List ℕ → Option (String Global) → List ℕ
text_or other None = other
text_or other (Some s) = string_bytes s

-- the ids differ
abbrev pub has_other_id : Id → Id → Bool
has_other_id a b = not (is_eq (id_cmp a b))

-- there are some, or some were there before
abbrev pub has_some : {T : Type 0} → Bool → List T → Bool
has_some before xs = before || nat_lt 0 (length xs)

-- a geometry is made of lines, rather than of rings
abbrev pub has_lines : Body → Bool
has_lines of.Null = false
has_lines (of.Point p) = false
has_lines (of.MultiPoint ps) = false
has_lines (of.Line used) = true
has_lines (of.MultiLine ls) = true
has_lines (of.Polygon rs) = false
has_lines (of.MultiPolygon ps) = false

-- the words for lines or rings of which some run the other way
abbrev pub direction_words : Body → List ℕ
direction_words b = cond (has_lines b) (codes "line direction only") (codes "ring direction only")
