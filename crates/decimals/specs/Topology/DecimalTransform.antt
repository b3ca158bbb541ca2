-- Transforms of decimal numbers as they are written, and their axes [TopoJSON, 2.1.2].
use Rattle.std.specs.Prelude.{ℕ, pos, ◌-◌, ◌*◌, ◌^◌, ◌*ℤ◌, List}
use Rattle.grid.specs.Place.{Transform}
use Rattle.numerals.specs.Axis.{Axis, axis_of}
use Rattle.numerals.specs.Numeral.{Measure}
use Rattle.decimals.specs.Topology.QuantizedAxis.{AxisParts}
use Rattle.decimals.specs.declared.topology.quantizer.Quantizer.{Quantizer}

-- what an absolute 1 is worth, and a transform: its four numerals, and its axes
pub record DecimalTransformParts : Type 0 where
  pub unit : Measure
  pub scale_x : List ℕ
  pub scale_y : List ℕ
  pub translate_x : List ℕ
  pub translate_y : List ℕ
  pub x : AxisParts
  pub y : AxisParts

-- the grid of a topology, and the axes of another transform
abbrev pub quantizer_of : DecimalTransformParts → Transform → Quantizer
quantizer_of d grid = record { grid = grid; x = d.x; y = d.y }

-- an axis and what an absolute 1 is worth, over the greater of their powers of ten
abbrev pub with_unit : Measure → Axis → AxisParts
with_unit u a = record {
  unit = u.size * 10 ^ (a.places - u.places);
  scale = a.scale *ℤ pos (10 ^ (u.places - a.places));
  translate = a.translate *ℤ pos (10 ^ (u.places - a.places));
}

-- the axis of the numerals of a scale and a translation
abbrev pub written_axis : Measure → List ℕ → List ℕ → AxisParts
written_axis u scale translate = with_unit u (axis_of scale translate)

-- the transform of four numerals
abbrev pub written_transform : Measure → List ℕ → List ℕ → List ℕ → List ℕ → DecimalTransformParts
written_transform u sx sy tx ty = record {
  unit = u;
  scale_x = sx;
  scale_y = sy;
  translate_x = tx;
  translate_y = ty;
  x = written_axis u sx tx;
  y = written_axis u sy ty;
}
