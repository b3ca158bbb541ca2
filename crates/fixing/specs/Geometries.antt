-- What is left of geometries.
use Rattle.std.specs.Prelude.{Bool, true, false, cond, List, [], ◌∷◌, Option, Some, None, unwrap_or}
use Rattle.std.specs.Option.{option_map}
use Rattle.grid.specs.declared.pos.Pos.{Pos}
use Rattle.shapes.specs.declared.form.Form.TheVariants.{Null as null, Point as point, MultiPoint as points, Line as line, MultiLine as lines, Polygon as polygon, MultiPolygon as polygons}
use Rattle.fixing.specs.Forms.{RawShape, PlainGeometry, one, collection}
use Rattle.fixing.specs.Left.{all_counted, all_left, line_counted, lines_left, one_more}
use Rattle.fixing.specs.Polygons.{polygon_counted, polygons_left}
use Rattle.fixing.specs.declared.rules.Collapsed.{Collapsed}
use Rattle.fixing.specs.declared.rules.Collapsed.TheVariants.{Null, Drop, Refuse}
use Rattle.fixing.specs.declared.rules.Fixes.{Fixes}
use Rattle.fixing.specs.declared.rules.FixingRules.{FixingRules}

-- the form of lines: null of none, and a LineString of one if it was one
abbrev pub line_form : Bool → List (List Pos) → RawShape
line_form was_multi [] = null
line_form was_multi (l ∷ []) = cond was_multi (lines (l ∷ [])) (line l)
line_form was_multi (l ∷ (m ∷ ls)) = lines (l ∷ (m ∷ ls))

-- the form of polygons: null of none, and a Polygon of one if it was one
abbrev pub polygon_form : Bool → List (List (List Pos)) → RawShape
polygon_form was_multi [] = null
polygon_form was_multi (p ∷ []) = cond was_multi (polygons (p ∷ [])) (polygon p)
polygon_form was_multi (p ∷ (q ∷ ps)) = polygons (p ∷ (q ∷ ps))

-- what is left of a shape, null where nothing is; none where the rules refuse it. A MultiLineString or MultiPolygon of
-- nothing stays
abbrev pub form_left : FixingRules → RawShape → Option RawShape
form_left rules null = Some null
form_left rules (point p) = Some (point p)
form_left rules (points ps) = Some (points ps)
form_left rules (line l) = option_map (line_form false) (lines_left rules l)
form_left rules (lines []) = Some (lines [])
form_left rules (lines (l ∷ ls)) = option_map (line_form true) (all_left (lines_left rules) (l ∷ ls))
form_left rules (polygon rs) = option_map (polygon_form false) (polygons_left rules rs)
form_left rules (polygons []) = Some (polygons [])
form_left rules (polygons (p ∷ ps)) = option_map (polygon_form true) (all_left (polygons_left rules) (p ∷ ps))

-- with what was done with its lines or rings counted
abbrev pub form_counted : FixingRules → RawShape → Fixes → Fixes
form_counted rules (line l) fixes = line_counted rules l fixes
form_counted rules (lines ls) fixes = all_counted (line_counted rules) ls fixes
form_counted rules (polygon rs) fixes = polygon_counted rules rs fixes
form_counted rules (polygons ps) fixes = all_counted (polygon_counted rules) ps fixes
form_counted rules form fixes = fixes

-- whether a form is null
abbrev pub is_null : RawShape → Bool
is_null null = true
is_null form = false

-- what is left of a shape, if it is not null; none where the rules refuse it
abbrev pub shown_left : FixingRules → RawShape → Option (List RawShape)
shown_left rules form = option_map (λ left. cond (is_null left) [] (left ∷ [])) (form_left rules form)

-- what becomes of a feature without a shape
abbrev pub lost : Collapsed → List RawShape
lost Drop = []
lost Null = null ∷ []
lost Refuse = null ∷ []

-- the shapes, or what becomes of a feature without one
abbrev pub or_lost : FixingRules → List RawShape → List RawShape
or_lost rules [] = lost rules.collapsed
or_lost rules (form ∷ forms) = form ∷ forms

-- what is left of the shapes of a feature; none where one is refused
abbrev pub forms_left : FixingRules → List RawShape → Option (List RawShape)
forms_left rules forms = option_map (or_lost rules) (all_left (shown_left rules) forms)

-- one feature more is counted as lost where no shape is left
abbrev pub counted_lost : List RawShape → Fixes → Fixes
counted_lost [] fixes = record fixes { lost = one_more fixes.lost }
counted_lost (form ∷ forms) fixes = fixes

-- with what was done with the shapes of a feature counted
abbrev pub lost_counted : FixingRules → List RawShape → Fixes → Fixes
lost_counted rules forms fixes = counted_lost (unwrap_or (all_left (shown_left rules) forms) []) (all_counted (form_counted rules) forms fixes)

-- the shapes that are left of a geometry, each to be a feature of its own; none where the rules refuse it. Null stays null
abbrev pub geometry_left : FixingRules → PlainGeometry → Option (List RawShape)
geometry_left rules (one form) = cond (is_null form) (Some (null ∷ [])) (forms_left rules (form ∷ []))
geometry_left rules (collection forms) = cond rules.splits_collections (forms_left rules forms) None

-- with what was done counted
abbrev pub geometry_counted : FixingRules → PlainGeometry → Fixes → Fixes
geometry_counted rules (one form) fixes = cond (is_null form) fixes (lost_counted rules (form ∷ []) fixes)
geometry_counted rules (collection forms) fixes = lost_counted rules forms (record fixes { collections = one_more fixes.collections })
