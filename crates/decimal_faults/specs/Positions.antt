-- Faults of positions of decimal numerals on a grid, and the positions themselves [RFC 7946, 3.1.1].
use Rattle.std.specs.Prelude.{ℕ, ℤ, pos, ◌+◌, ◌*◌, ◌/◌, ◌^◌, min, Bool, true, false, ◌&&◌, not, nat_eq, nat_le, List, [], ◌∷◌, ◌++◌, length, Option, Some, None, unsigned_abs, if◌then◌else◌}
use Rattle.std.specs.Str.Parse.{starts_with_minus}
use Rattle.fast_float.specs.Text.{has_digits, with_sign}
use Rattle.json.specs.Json.{Json, Items, no_items, item}
use Rattle.json.specs.Find.{as_array, as_number}
use Rattle.faults.specs.Path.{index}
use Rattle.faults.specs.Fault.{Pair}
use Rattle.faults.specs.declared.fault.FaultKind.TheVariants.{NotTwo, OutOfRange}
use Rattle.grid.specs.declared.pos.Pos.{Pos}
use Rattle.numerals.specs.Numeral.{Measure, dividend, divisor, parts_of, unsigned_text}
use Rattle.reading.specs.Fault.{here, under}
use Rattle.reading.specs.Positions.{position_at}
use Rattle.decimal_faults.specs.Parts.{array_faults, each_faults, numeral_faults}
use Rattle.decimal_maps.specs.declared.rules.DecimalGrid.{DecimalGrid}

-- ---- numbers

-- how many steps a numeral is from 0, to the nearest whole number; of two that are equally near the greater
unfoldable pub steps_of : Measure → List ℕ → ℕ
steps_of s text = (unsigned_abs (dividend s text) * 2 + divisor s text) / (divisor s text * 2)

-- the whole number of steps that is nearest to a numeral
unfoldable pub nearest_of : Measure → List ℕ → ℤ
nearest_of s text = with_sign (starts_with_minus text) (steps_of s text)

-- whether a text is a numeral
abbrev pub is_numeral : List ℕ → Bool
is_numeral text = has_digits (parts_of text) && nat_eq (parts_of text).len (length (unsigned_text text))

-- the whole number of steps that is nearest is at most so far from 0, and a grid number
unfoldable pub number_faults : Measure → ℕ → List ℕ → List Pair
number_faults s greatest text = if is_numeral text && nat_le (steps_of s text) (min greatest (2 ^ 40)) then [] else here OutOfRange

-- the faults of one of the first two numbers of a position
abbrev pub coordinate_faults : Measure → ℕ → Json → List Pair
coordinate_faults s greatest j = numeral_faults (number_faults s greatest) (as_number j)

-- a height is any number
abbrev pub height_faults : Json → List Pair
height_faults j = numeral_faults (λ text. []) (as_number j)

abbrev pub nearest_or_zero : Measure → Option (List ℕ) → ℤ
nearest_or_zero s None = pos 0
nearest_or_zero s (Some text) = nearest_of s text

-- the whole number of steps nearest to a number, 0 where it is none
abbrev pub whole_of : Measure → Json → ℤ
whole_of s j = nearest_or_zero s (as_number j)

-- ---- positions

-- whether a position may have so many numbers
abbrev pub may_have : DecimalGrid → Items → Bool
may_have grid no_items = false
may_have grid (item x no_items) = false
may_have grid (item x (item y no_items)) = true
may_have grid (item x (item y (item z js))) = not grid.refuses_heights

-- the faults of the first two numbers
abbrev pub both_faults : DecimalGrid → Items → List Pair
both_faults grid no_items = []
both_faults grid (item x no_items) = []
both_faults grid (item x (item y js)) = under (index 0) (coordinate_faults grid.step grid.greatest_x x) ++ under (index 1) (coordinate_faults grid.step grid.greatest_y y)

-- the numbers behind the first two
abbrev pub behind_two : Items → Items
behind_two no_items = no_items
behind_two (item x no_items) = no_items
behind_two (item x (item y js)) = js

-- two numbers, and heights behind them where they are not refused
abbrev pub numbers_faults : DecimalGrid → Items → List Pair
numbers_faults grid js = if may_have grid js then both_faults grid js ++ each_faults height_faults 2 (behind_two js) else here NotTwo

-- the faults of a position [RFC 7946, 3.1.1]
abbrev pub position_faults : DecimalGrid → Json → List Pair
position_faults grid j = array_faults (numbers_faults grid) (as_array j)

abbrev pub position_in : Measure → Option Items → Pos
position_in s None = position_at (pos 0) (pos 0)
position_in s (Some no_items) = position_at (pos 0) (pos 0)
position_in s (Some (item x no_items)) = position_at (pos 0) (pos 0)
position_in s (Some (item x (item y heights))) = position_at (whole_of s x) (whole_of s y)

-- the position nearest to the first two numbers of an array [RFC 7946, 3.1.1]
abbrev pub position_of : Measure → Json → Pos
position_of s j = position_in s (as_array j)

abbrev pub each_position : Measure → Items → List Pos
each_position s no_items = []
each_position s (item j js) = position_of s j ∷ each_position s js

-- the positions of the items, none where there is no array
abbrev pub positions_in : Measure → Option Items → List Pos
positions_in s None = []
positions_in s (Some js) = each_position s js

-- the positions of an array
abbrev pub positions_of : Measure → Json → List Pos
positions_of s j = positions_in s (as_array j)
