-- The transform of a bounding box, so many numbers along each side [as topoquantize].
use Rattle.std.specs.Prelude.{ℕ, ℤ, pos, ◌+◌, ◌-◌, ◌*◌, ◌/◌, ◌^◌, ◌≤◌, ◌-ℤ◌, ◌*ℤ◌, List, Option, Some, None, if◌then◌else◌, unsigned_abs}
use Rattle.std.specs.Ordering.{int_eq}
use Rattle.numerals.specs.Amount.{amount, amount_text}
use Rattle.numerals.specs.Numeral.{Measure}
use Rattle.topo.specs.Parts.{Corners}
use Rattle.decimals.specs.Topology.DecimalTransform.{DecimalTransformParts}
use Rattle.decimals.specs.Topology.QuantizedAxis.{AxisParts, IsQuantizedAxis, axis_parts}
use Rattle.decimals.specs.Topology.Unit.{absolute_text}

-- an absolute 1, twelve places more
abbrev pub parts_of : Measure → ℕ
parts_of u = u.size * 10 ^ 12

-- from the first number to the last in so many steps: the least scale that has twelve places more than the unit; 1 where
-- both are the same [topoquantize: (high - low) / steps, or 1]
abbrev pub box_scale : Measure → ℕ → ℤ → ℤ → ℤ
box_scale u steps low high =
    if int_eq low high then pos (10 ^ (u.places + 12))
    else pos ((unsigned_abs (high -ℤ low) * parts_of u + (steps - 1)) / steps)

-- such an axis begins at the first number
abbrev pub box_axis : Measure → ℕ → ℤ → ℤ → AxisParts
box_axis u steps low high = axis_parts (parts_of u) (box_scale u steps low high) (low *ℤ pos (parts_of u))

-- the scale as it is printed
abbrev pub box_scale_text : Measure → ℕ → ℤ → ℤ → List ℕ
box_scale_text u steps low high = amount_text (amount (box_scale u steps low high) (u.places + 12))

-- the transform of corners
abbrev pub corners_transform : Measure → ℕ → Corners → DecimalTransformParts
corners_transform u steps c = record {
  unit = u;
  scale_x = box_scale_text u steps c.0 c.2;
  scale_y = box_scale_text u steps c.1 c.3;
  translate_x = absolute_text u c.0;
  translate_y = absolute_text u c.1;
  x = box_axis u steps c.0 c.2;
  y = box_axis u steps c.1 c.3;
}

-- with no position there is one place, 0
abbrev pub corners_or_zero : Option Corners → Corners
corners_or_zero (Some c) = c
corners_or_zero None = (pos 0, pos 0, pos 0, pos 0)

-- the transform of a bounding box in so many steps
abbrev pub box_transform : Measure → ℕ → Option Corners → DecimalTransformParts
box_transform u steps bbox = corners_transform u steps (corners_or_zero bbox)

-- the numbers of an axis are within their limits
pub record IsBoxAxis (u : Measure) (steps : ℕ) (low high : ℤ) : Type 0 where
  pub places : u.places ≤ 18
  pub limits : IsQuantizedAxis (box_axis u steps low high)

-- the numbers of both axes are
pub record IsBoxTransform (u : Measure) (steps : ℕ) (c : Corners) : Type 0 where
  pub x : IsBoxAxis u steps c.0 c.2
  pub y : IsBoxAxis u steps c.1 c.3
