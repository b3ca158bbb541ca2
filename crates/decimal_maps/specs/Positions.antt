-- Positions of decimal numerals, rounded to a grid [RFC 7946, 3.1.1].
use Rattle.std.specs.Prelude.{◌≡◌, ◌≤◌, ℕ, ℤ, false, max, unsigned_abs}
use Rattle.json.specs.Json.{Json, null, boolean, number, string, array, object, Items, no_items, item}
use Rattle.grid.specs.Fits.{x_of, y_of}
use Rattle.grid.specs.declared.pos.Pos.{Pos}
use Rattle.numerals.specs.Numeral.{IsNumeral, IsSnapped}
use Rattle.decimal_maps.specs.Tally.{distance_from_grid, with_height, with_position}
use Rattle.decimal_maps.specs.declared.rules.DecimalGrid.{DecimalGrid}
use Rattle.decimal_maps.specs.declared.tally.Tally.{Tally}

-- a numeral, to which n is the nearest whole number of steps, and n is not too great
abbrev pub IsCoordinate : DecimalGrid → ℕ → Json → ℤ → Type 0
IsCoordinate grid greatest null n = ⊥
IsCoordinate grid greatest (boolean b) n = ⊥
IsCoordinate grid greatest (number text) n = IsSnapped grid.step text n × (unsigned_abs n ≤ greatest) × IsNumeral text
IsCoordinate grid greatest (string t) n = ⊥
IsCoordinate grid greatest (array js) n = ⊥
IsCoordinate grid greatest (object ms) n = ⊥

-- a number behind the second of a position, where it may have one
abbrev pub IsHeight : DecimalGrid → Json → Type 0
IsHeight grid null = ⊥
IsHeight grid (boolean b) = ⊥
IsHeight grid (number text) = grid.refuses_heights ≡ false
IsHeight grid (string t) = ⊥
IsHeight grid (array js) = ⊥
IsHeight grid (object ms) = ⊥

-- the items are heights, and are counted
abbrev pub AreHeights : DecimalGrid → Items → Tally → Tally → Type 0
AreHeights grid no_items a b = b ≡ a
AreHeights grid (item j js) a b = IsHeight grid j × AreHeights grid js (with_height a) b

-- two coordinates, perhaps with heights behind them; the position and its heights are counted
abbrev pub AreCoordinates : DecimalGrid → Items → Pos → Tally → Tally → Type 0
AreCoordinates grid no_items p a b = ⊥
AreCoordinates grid (item x no_items) p a b = ⊥
AreCoordinates grid (item x (item y heights)) p a b =
    IsCoordinate grid grid.greatest_x x (x_of p) × IsCoordinate grid grid.greatest_y y (y_of p)
    × AreHeights grid heights (with_position (max (distance_from_grid grid x) (distance_from_grid grid y)) a) b

-- an array of two numbers or more, and the position nearest to the first two; what is counted goes from a to b
abbrev pub IsPosition : DecimalGrid → Json → Pos → Tally → Tally → Type 0
IsPosition grid null p a b = ⊥
IsPosition grid (boolean v) p a b = ⊥
IsPosition grid (number text) p a b = ⊥
IsPosition grid (string t) p a b = ⊥
IsPosition grid (array js) p a b = AreCoordinates grid js p a b
IsPosition grid (object ms) p a b = ⊥
