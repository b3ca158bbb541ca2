-- Numbers of positions of topologies, along one axis [TopoJSON, 2.1.2 and 2.1.3; limits own].
use Rattle.std.specs.Prelude.{ℕ, ℤ, pos, ◌+ℤ◌, ◌+◌, ◌*◌, ◌/◌, ◌^◌, ◌&&◌, nat_le, Bool, List, Option, Some, None, Result, Ok, Err, unsigned_abs, if◌then◌else◌}
use Rattle.std.specs.Int.Signed.{lt_z}
use Rattle.fast_float.specs.Text.{with_sign}
use Rattle.json.specs.Json.{Json}
use Rattle.json.specs.Find.{as_number}
use Rattle.faults.specs.declared.fault.FaultKind.{FaultKind}
use Rattle.faults.specs.declared.fault.FaultKind.TheVariants.{WrongKind, NotWhole, OutOfRange}
use Rattle.grid.specs.Computed.{is_grid_number}
use Rattle.numerals.specs.Axis.{Axis, distance_at, value_at, value_dividend, value_divisor}
use Rattle.numerals.specs.Distance.{distance_of}
use Rattle.numerals.specs.Numeral.{Measure}
use Rattle.numerals.specs.Whole.{whole_of}
use Rattle.decimal_faults.specs.Positions.{is_numeral, nearest_of, steps_of}
use Rattle.decimal_maps.specs.declared.rules.DecimalGrid.{DecimalGrid}
use Rattle.decimal_arcs.specs.declared.axes.Reached.{Reached}
use Rattle.decimal_arcs.specs.declared.place.Quantization.{Quantization}
use Rattle.decimal_arcs.specs.declared.place.NumeralTransform.{NumeralTransform}

-- ---- numbers of steps

-- how many steps the value at a number of an axis is from 0, to the nearest whole number; of two that are equally near
-- the greater
unfoldable pub steps_at : Axis → Measure → ℤ → ℕ
steps_at a s n = (unsigned_abs (value_dividend a s n) * 2 + value_divisor a s) / (value_divisor a s * 2)

-- the whole number of steps that is nearest to the value at a number of an axis
unfoldable pub nearest_at : Axis → Measure → ℤ → ℤ
nearest_at a s n = with_sign (lt_z (value_at a n) (pos 0)) (steps_at a s n)

-- that number, where it is a grid number, and how far the value is from it
unfoldable pub snapped_at : Axis → Measure → ℤ → Option (ℤ × ℕ)
snapped_at a s n = if nat_le (steps_at a s n) (2 ^ 40) then Some (nearest_at a s n, distance_at a s n) else None

-- the same for a numeral
unfoldable pub snapped_text : Measure → List ℕ → Option (ℤ × ℕ)
snapped_text s text = if is_numeral text && nat_le (steps_of s text) (2 ^ 40) then Some (nearest_of s text, distance_of s text) else None

-- a number of steps that is at most so far from 0; how far it was moved is told where that is measured
abbrev pub kept : DecimalGrid → ℕ → Option (ℤ × ℕ) → Option (ℤ × ℕ)
kept grid greatest None = None
kept grid greatest (Some p) = if nat_le (unsigned_abs p.0) greatest then Some (p.0, (if grid.measures then p.1 else 0)) else None

-- ---- with a transform

abbrev pub whole_if : Option (Bool × ℕ) → Result ℤ FaultKind
whole_if None = Err NotWhole
whole_if (Some w) = Ok (with_sign w.0 w.1)

abbrev pub whole_text : Option (List ℕ) → Result ℤ FaultKind
whole_text None = Err WrongKind
whole_text (Some text) = whole_if (whole_of text)

-- the whole number that a value is, or its fault
abbrev pub whole_number : Json → Result ℤ FaultKind
whole_number j = whole_text (as_number j)

-- a sum, with the number of steps that it becomes; there is none beyond the limits
abbrev pub reached_by : ℤ → Option (ℤ × ℕ) → Result (Option Reached) FaultKind
reached_by n None = Err OutOfRange
reached_by n (Some p) = Ok (Some (record { sum = n; at = p.0; far = p.1 }))

-- the grid number that a sum of differences becomes; the sum and that are within their limits [TopoJSON, 2.1.2]
abbrev pub reach : Axis → DecimalGrid → ℕ → ℤ → Result (Option Reached) FaultKind
reach a grid greatest n = if is_grid_number n then reached_by n (kept grid greatest (snapped_at a grid.step n)) else Err OutOfRange

-- one more difference; nothing is known behind a sum that isn't [TopoJSON, 2.1.3]
abbrev pub behind_sum : Axis → DecimalGrid → ℕ → Option ℤ → ℤ → Result (Option Reached) FaultKind
behind_sum a grid greatest None d = Ok None
behind_sum a grid greatest (Some n) d = reach a grid greatest (n +ℤ d)

abbrev pub behind_number : Axis → DecimalGrid → ℕ → Option ℤ → Result ℤ FaultKind → Result (Option Reached) FaultKind
behind_number a grid greatest sum (Err k) = Err k
behind_number a grid greatest sum (Ok d) = behind_sum a grid greatest sum d

-- what a whole number leads to, behind a sum [TopoJSON, 2.1.3]
abbrev pub quantized_number : Axis → DecimalGrid → ℕ → Option ℤ → Json → Result (Option Reached) FaultKind
quantized_number a grid greatest sum j = behind_number a grid greatest sum (whole_number j)

-- ---- without one

abbrev pub decimal_text : DecimalGrid → ℕ → Option (List ℕ) → Result (Option Reached) FaultKind
decimal_text grid greatest None = Err WrongKind
decimal_text grid greatest (Some text) = reached_by (pos 0) (kept grid greatest (snapped_text grid.step text))

-- the grid number that a number itself becomes; there are no sums
abbrev pub decimal_number : DecimalGrid → ℕ → Json → Result (Option Reached) FaultKind
decimal_number grid greatest j = decimal_text grid greatest (as_number j)

-- ---- both axes

abbrev pub x_by : Option NumeralTransform → DecimalGrid → Option ℤ → Json → Result (Option Reached) FaultKind
x_by None grid sum j = decimal_number grid grid.greatest_x j
x_by (Some t) grid sum j = quantized_number t.x grid grid.greatest_x sum j

-- what the first number of a position leads to, behind the sum of those before
abbrev pub x_number : Quantization → Option ℤ → Json → Result (Option Reached) FaultKind
x_number q sum j = x_by q.transform q.grid sum j

abbrev pub y_by : Option NumeralTransform → DecimalGrid → Option ℤ → Json → Result (Option Reached) FaultKind
y_by None grid sum j = decimal_number grid grid.greatest_y j
y_by (Some t) grid sum j = quantized_number t.y grid grid.greatest_y sum j

-- what the second number of a position leads to
abbrev pub y_number : Quantization → Option ℤ → Json → Result (Option Reached) FaultKind
y_number q sum j = y_by q.transform q.grid sum j
