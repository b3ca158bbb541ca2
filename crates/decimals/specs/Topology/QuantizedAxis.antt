-- Absolute numbers rounded to the whole numbers of another transform [TopoJSON, 2.1.2].
use Rattle.std.specs.Prelude.{ℕ, ℤ, pos, negsuc, ◌+◌, ◌*◌, ◌/◌, ◌^◌, ◌<◌, ◌≤◌, ◌-ℤ◌, ◌*ℤ◌, neg_ℤ, suc, unsigned_abs}
use Rattle.fast_float.specs.Text.{with_sign}
use Rattle.numerals.specs.Amount.{is_below}

-- The scale and the translation of one element of a transform, and what an absolute 1 is worth, all over one power of ten.
pub record AxisParts : Type 0 where
  pub unit : ℕ
  pub scale : ℤ
  pub translate : ℤ

-- the axis of these three
abbrev pub axis_parts : ℕ → ℤ → ℤ → AxisParts
axis_parts unit scale translate = record { unit = unit; scale = scale; translate = translate }

-- the scale is not 0, and all are within their limits
pub record IsQuantizedAxis (a : AxisParts) : Type 0 where
  pub unit : a.unit ≤ 10 ^ 18
  pub some : 1 ≤ unsigned_abs a.scale
  pub scale : unsigned_abs a.scale < 10 ^ 37
  pub translate : unsigned_abs a.translate < 10 ^ 37

-- n / d rounded to the nearest whole number, from half on away from 0
abbrev pub rounded : ℤ → ℕ → ℤ
rounded n d = with_sign (is_below n) ((2 * unsigned_abs n + d) / (2 * d))

-- the same for a d that may be below 0
abbrev pub nearest : ℤ → ℤ → ℤ
nearest n (pos d) = rounded n d
nearest n (negsuc k) = rounded (neg_ℤ n) (suc k)

-- the whole number nearest to (n × unit - translate) / scale, of two the one farther from 0
abbrev pub number_on : AxisParts → ℤ → ℤ
number_on a n = nearest ((n *ℤ pos a.unit) -ℤ a.translate) a.scale

-- both numbers are well within a machine word
pub record AreFew (p : ℤ × ℤ) : Type 0 where
  pub x : unsigned_abs p.0 < 5 * 10 ^ 37
  pub y : unsigned_abs p.1 < 5 * 10 ^ 37
