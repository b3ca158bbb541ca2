-- What is counted of the positions of a map.
use Rattle.std.specs.Prelude.{ℕ, ◌+◌, ◌-◌, ◌^◌, ◌==◌, min, max, if◌then◌else◌}
use Rattle.json.specs.Json.{Json, null, boolean, number, string, array, object}
use Rattle.numerals.specs.Distance.{distance_of}
use Rattle.decimal_maps.specs.declared.rules.DecimalGrid.{DecimalGrid}
use Rattle.decimal_maps.specs.declared.tally.Tally.{Tally}

-- nothing is counted yet
abbrev pub nothing_counted : Tally
nothing_counted = record { positions = 0; heights = 0; moved = 0; furthest = 0 }

-- one more, or the greatest number of 64 bits
abbrev pub one_more : ℕ → ℕ
one_more n = min (n + 1) (2 ^ 64 - 1)

-- how far a number is from the grid, where that is measured
abbrev pub distance_from_grid : DecimalGrid → Json → ℕ
distance_from_grid grid null = 0
distance_from_grid grid (boolean b) = 0
distance_from_grid grid (number text) = if grid.measures then distance_of grid.step text else 0
distance_from_grid grid (string s) = 0
distance_from_grid grid (array js) = 0
distance_from_grid grid (object ms) = 0

-- one more position, of which one number or both are so far from the grid at most
abbrev pub with_position : ℕ → Tally → Tally
with_position far t = record {
  positions = one_more t.positions;
  heights = t.heights;
  moved = if far == 0 then t.moved else one_more t.moved;
  furthest = max t.furthest far;
}

-- one more height
abbrev pub with_height : Tally → Tally
with_height t = record t { heights = one_more t.heights }
