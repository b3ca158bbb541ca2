-- The laws of what is left of lines and rings.
use Rattle.std.specs.Prelude.{◌≡◌, ◌≢◌, ◌↔◌, ℕ, ◌+◌, pos, ◌-ℤ◌, List, [], ◌∷◌, map, Bool, true, false, Some, None, FitsSigned}
use Rattle.grid.specs.declared.pos.Pos.{Pos}
use Rattle.lines.specs.Reading.{collapsed, line_fault, ring_fault}
use Rattle.lines.specs.Segments.{segments_of}
use Rattle.lines.specs.Turned.{position_cmp}
use Rattle.lines.specs.declared.pair.PositionPair.{PositionPair}
use Rattle.lines.specs.declared.shape_fault.ShapeFault.TheVariants.{NotClosed}
use Rattle.theory.specs.LinesAndRings.{IsRing, closed}
use Rattle.shapes.specs.declared.form.Form.TheVariants.{Polygon as polygon, MultiPolygon as polygons}
use Rattle.theory.specs.Lists.{Distinct, Each, gathered, last_of}
use Rattle.fixing.specs.Forms.{RawShape}
use Rattle.fixing.specs.Geometries.{form_counted, form_left}
use Rattle.fixing.specs.Left.{all_counted, all_left, closed_list, is_open, line_counted, line_left, ring_counted, ring_left}
use Rattle.fixing.specs.Loops.{loops_of}
use Rattle.fixing.specs.Measures.{rewound, turns_left, twice_area}
use Rattle.fixing.specs.Polygons.{polygon_counted, polygon_kept, polygon_left}
use Rattle.fixing.specs.Runs.{first_uses, runs_of}
use Rattle.fixing.specs.Uses.{uses}
use Rattle.fixing.specs.declared.rules.Fixes.{Fixes}
use Rattle.fixing.specs.declared.rules.Rewind.{Rewind}
use Rattle.fixing.specs.declared.rules.Rewind.TheVariants.{Keep, Rfc7946}
use Rattle.fixing.specs.declared.rules.FixingRules.{FixingRules}
use mir.Syntax.{w128}

-- what is left of a line has no fault: two positions or more, and no segment twice [RFC 7946, 3.1.4]
abbrev pub LinesLeftAreSound : Type 0
LinesLeftAreSound =
    (rules : FixingRules) (line : List Pos) (left : List (List Pos)) → line_left rules line ≡ Some left → Each (λ l. line_fault position_cmp l ≡ None) left

-- what is left of a ring has no fault: closed, four positions or more, and no segment twice [RFC 7946, 3.1.6]
abbrev pub RingsLeftAreSound : Type 0
RingsLeftAreSound =
    (rules : FixingRules) (ring : List Pos) (left : List (List Pos)) → ring_left rules ring ≡ Some left → Each (λ l. ring_fault position_cmp l ≡ None) left

-- the runs of a line have each segment of the line once, in the order in which it is used first
abbrev pub RunsUseEachSegmentOnce : Type 0
RunsUseEachSegmentOnce =
    (line : List Pos) →
    gathered segments_of (runs_of (collapsed position_cmp line)) ≡ first_uses (λ _. false) (segments_of (collapsed position_cmp line))

-- a closed list that meets no vertex again
abbrev pub IsSimpleRing : List Pos → Type 0
IsSimpleRing l = (ring : List Pos) × (l ≡ closed ring) × IsRing ring × Distinct ring

-- each loop of a ring is a ring that meets no vertex again
abbrev pub LoopsAreSimple : Type 0
LoopsAreSimple = (l : List Pos) → Each IsSimpleRing (loops_of l)

-- the loops of a closed list use each segment an odd number of times exactly where the list does: those that are gone
-- were used twice as often as is said
abbrev pub LoopsKeepOddUses : Type 0
LoopsKeepOddUses =
    (x : Pos) (l : List Pos) → last_of x l ≡ x → (s : PositionPair) → ¬ (s.lesser ≡ s.greater) →
    (gone : ℕ) × (uses s (segments_of (x ∷ l)) ≡ uses s (gathered segments_of (loops_of (x ∷ l))) + (gone + gone))

-- each ring of each polygon has P
abbrev pub EachRing : (List Pos → Type 0) → List (List (List Pos)) → Type 0
EachRing P [] = Unit {0}
EachRing P (p ∷ ps) = Each P p × EachRing P ps

-- the rings of what is left of a polygon have no fault
abbrev pub PolygonsLeftAreSound : Type 0
PolygonsLeftAreSound =
    (rules : FixingRules) (polygon : List (List Pos)) (left : List (List (List Pos))) → polygon_kept rules polygon ≡ Some left →
    EachRing (λ l. ring_fault position_cmp l ≡ None) left

-- a ring that is judged is open exactly where its list is open and the rules don't close it
abbrev pub OpenRingsAreClosed : Type 0
OpenRingsAreClosed =
    (rules : FixingRules) (ring : List Pos) → ring_fault position_cmp (closed_list rules ring) ≡ Some NotClosed ↔ ((rules.closes_rings ≡ false) × (is_open ring ≡ true))

-- a line without a fault is left as it is, and nothing is counted
abbrev pub SoundLinesStay : Type 0
SoundLinesStay =
    (rules : FixingRules) (line : List Pos) (fixes : Fixes) → line_fault position_cmp line ≡ None →
    (line_left rules line ≡ Some (line ∷ [])) × (line_counted rules line fixes ≡ fixes)

-- and so is a ring
abbrev pub SoundRingsStay : Type 0
SoundRingsStay =
    (rules : FixingRules) (ring : List Pos) (fixes : Fixes) → ring_fault position_cmp ring ≡ None →
    (ring_left rules ring ≡ Some (ring ∷ [])) × (ring_counted rules ring fixes ≡ fixes)

-- so do all lines of a list of them
abbrev pub SoundMultiLinesStay : Type 0
SoundMultiLinesStay =
    (rules : FixingRules) (lines : List (List Pos)) (fixes : Fixes) → Each (λ l. line_fault position_cmp l ≡ None) lines →
    (all_left (line_left rules) lines ≡ Some lines) × (all_counted (line_counted rules) lines fixes ≡ fixes)

-- and a polygon of rings without a fault, where rings are not turned
abbrev pub SoundPolygonsStay : Type 0
SoundPolygonsStay =
    (rules : FixingRules) (polygon : List (List Pos)) (fixes : Fixes) → rules.rewind ≡ Keep → Each (λ l. ring_fault position_cmp l ≡ None) polygon →
    (polygon_left rules polygon ≡ Some (polygon ∷ [])) × (polygon_counted rules polygon fixes ≡ fixes)

-- twice the area of a closed list doesn't wrap, whichever way round
pub record HasArea (l : List Pos) : Type 0 where
  pub ahead : FitsSigned w128 (twice_area l)
  pub back : FitsSigned w128 (pos 0 -ℤ twice_area l)

-- a ring that is turned turns as it is wanted: left for an outer ring, and right for a hole [RFC 7946, 3.1.6], where it has an area
abbrev pub TurnedRingsTurn : Type 0
TurnedRingsTurn = (is_outer : Bool) (l : List Pos) → HasArea l → twice_area l ≢ pos 0 → turns_left (rewound Rfc7946 is_outer l) ≡ is_outer

-- and a ring that was turned stays as it is, with an area or without: turning is idempotent
abbrev pub TurnedRingsStay : Type 0
TurnedRingsStay =
    (rewind : Rewind) (is_outer : Bool) (l : List Pos) → HasArea l → rewound rewind is_outer (rewound rewind is_outer l) ≡ rewound rewind is_outer l

-- a shape that was fixed as it is read again: each ring by its closed list
abbrev pub closed_form : RawShape → RawShape
closed_form (polygon rs) = polygon (map closed rs)
closed_form (polygons ps) = polygons (map (map closed) ps)
closed_form form = form

-- the areas of the rings of a shape that was fixed don't wrap
abbrev pub HaveAreas : RawShape → Type 0
HaveAreas (polygon rs) = Each (λ r. HasArea (closed r)) rs
HaveAreas (polygons ps) = EachRing (λ r. HasArea (closed r)) ps
HaveAreas form = Unit {0}

-- what is left of a shape is left as it is when it is fixed again, and nothing is counted: fixing is idempotent
abbrev pub ShapesLeftStay : Type 0
ShapesLeftStay =
    (rules : FixingRules) (form left : RawShape) (fixes : Fixes) → form_left rules form ≡ Some left → HaveAreas left →
    (form_left rules (closed_form left) ≡ Some left) × (form_counted rules (closed_form left) fixes ≡ fixes)
