-- Axes of topologies: a scale and a translation in decimal numbers.
use Rattle.std.specs.Prelude.{ℕ, ℤ, pos, ◌+◌, ◌-◌, ◌*◌, ◌*ℤ◌, ◌+ℤ◌, ◌^◌, ◌<◌, List, unsigned_abs}
use Rattle.fast_float.specs.Text.{tens_down}
use Rattle.numerals.specs.Distance.{away, rounded_up}
use Rattle.numerals.specs.Nearest.{IsNearest}
use Rattle.numerals.specs.Numeral.{IsNumeral, Measure, numerator, parts_of}

-- an axis: the number n of an arc's position is worth (n * scale + translate) / 10 ^ places [TopoJSON, 2.1.2]
pub record Axis : Type 0 where
  pub scale : ℤ
  pub translate : ℤ
  pub places : ℕ

-- both numbers have at most 25 digits
pub record IsAxis (a : Axis) : Type 0 where
  pub scale : unsigned_abs a.scale < 10 ^ 25
  pub translate : unsigned_abs a.translate < 10 ^ 25

-- how many places a numeral has behind its point, those of a negative exponent too
abbrev pub places_of : List ℕ → ℕ
places_of text = tens_down (parts_of text)

-- the places of that one of two numerals which has more: both are whole numbers over 10 to that many
abbrev pub common_places : List ℕ → List ℕ → ℕ
common_places text other = places_of text + (places_of other - places_of text)

-- a numeral's value times 10 to the places that it and another have in common
abbrev pub common_numerator : List ℕ → List ℕ → ℤ
common_numerator text other = numerator text *ℤ pos (10 ^ (places_of other - places_of text))

-- the text is a numeral with fewer than 2 ^ 32 places, and has at most 25 digits over the power of ten that it and another
-- have in common
pub record IsFit (text other : List ℕ) : Type 0 where
  pub numeral : IsNumeral text
  pub places : places_of text < 2 ^ 32
  pub digits : unsigned_abs (common_numerator text other) < 10 ^ 25

-- the axis that two numerals write
abbrev pub axis_of : List ℕ → List ℕ → Axis
axis_of scale translate = record {
  scale = common_numerator scale translate;
  translate = common_numerator translate scale;
  places = common_places scale translate;
}

-- the value at a number of an axis, times 10 to its places [TopoJSON, 2.1.2]
abbrev pub value_at : Axis → ℤ → ℤ
value_at a n = (n *ℤ a.scale) +ℤ a.translate

-- the value at a number of an axis is worth value_dividend / value_divisor steps
abbrev pub value_dividend : Axis → Measure → ℤ → ℤ
value_dividend a s n = value_at a n *ℤ pos (10 ^ s.places)

-- the divisor of an axis' values in steps
abbrev pub value_divisor : Axis → Measure → ℕ
value_divisor a s = s.size * 10 ^ a.places

-- p is the whole number of steps that is nearest to the value at a number of an axis
abbrev pub IsSnappedAt : Axis → Measure → ℤ → ℤ → Type 0
IsSnappedAt a s n p = IsNearest (value_dividend a s n) (value_divisor a s) p

-- how far that value is from the nearest whole number of steps, in ten-thousandths of a step, rounded up
abbrev pub distance_at : Axis → Measure → ℤ → ℕ
distance_at a s n = rounded_up (10000 * away (unsigned_abs (value_dividend a s n)) (value_divisor a s)) (value_divisor a s)
