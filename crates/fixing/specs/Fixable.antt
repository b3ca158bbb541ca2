-- Which geometries the rules leave something of, or refuse.
use Rattle.std.specs.Prelude.{◌≡◌, ◌↔◌, true, List, None, IsSome}
use Rattle.std.specs.List.{AllByRecursion}
use Rattle.grid.specs.declared.pos.Pos.{Pos}
use Rattle.lines.specs.Reading.{line_fault, ring_fault}
use Rattle.lines.specs.Turned.{position_cmp}
use Rattle.shapes.specs.declared.form.Form.TheVariants.{Null as null, Point as point, MultiPoint as points, Line as line, MultiLine as lines, Polygon as polygon, MultiPolygon as polygons}
use Rattle.fixing.specs.Forms.{RawShape, PlainGeometry, one, collection}
use Rattle.fixing.specs.Geometries.{geometry_left}
use Rattle.fixing.specs.Left.{closed_list, line_left, ring_left, unfixed}
use Rattle.fixing.specs.declared.rules.FixingRules.{FixingRules}

-- a line has no fault but what the rules fix
abbrev pub IsFixableLine : FixingRules → List Pos → Type 0
IsFixableLine rules l = unfixed rules (line_fault position_cmp l) ≡ None

-- nor has a ring, once it is closed where the rules close it
abbrev pub IsFixableRing : FixingRules → List Pos → Type 0
IsFixableRing rules l = unfixed rules (ring_fault position_cmp (closed_list rules l)) ≡ None

-- nor has any line or ring of a shape
abbrev pub IsFixable : FixingRules → RawShape → Type 0
IsFixable rules null = Unit {0}
IsFixable rules (point p) = Unit {0}
IsFixable rules (points ps) = Unit {0}
IsFixable rules (line l) = IsFixableLine rules l
IsFixable rules (lines ls) = AllByRecursion (IsFixableLine rules) ls
IsFixable rules (polygon rs) = AllByRecursion (IsFixableRing rules) rs
IsFixable rules (polygons ps) = AllByRecursion (AllByRecursion (IsFixableRing rules)) ps

-- nor has any shape of a geometry, which is no GeometryCollection unless the rules split those
abbrev pub IsFixableGeometry : FixingRules → PlainGeometry → Type 0
IsFixableGeometry rules (one form) = IsFixable rules form
IsFixableGeometry rules (collection forms) = (rules.splits_collections ≡ true) × AllByRecursion (IsFixable rules) forms

-- exactly of such lines something is left
abbrev pub FixableLinesAreLeft : Type 0
FixableLinesAreLeft = (rules : FixingRules) (line : List Pos) → IsSome (line_left rules line) ↔ IsFixableLine rules line

-- exactly of such rings
abbrev pub FixableRingsAreLeft : Type 0
FixableRingsAreLeft = (rules : FixingRules) (ring : List Pos) → IsSome (ring_left rules ring) ↔ IsFixableRing rules ring

-- and exactly of such geometries
abbrev pub FixableGeometriesAreLeft : Type 0
FixableGeometriesAreLeft = (rules : FixingRules) (geometry : PlainGeometry) → IsSome (geometry_left rules geometry) ↔ IsFixableGeometry rules geometry
