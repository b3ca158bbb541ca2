-- The grid number of an absolute number, computed: what readers list.
use Rattle.std.specs.Prelude.{ℤ, ◌-ℤ◌, ◌&&◌, Bool, true, false, Result, Ok, Err, nat_eq, int_le, int_div, int_rem, unsigned_abs}
use Rattle.grid.specs.declared.limits.TheConstants.{LEAST_GRID_NUMBER, GREATEST_GRID_NUMBER, LEAST_ABSOLUTE_NUMBER, GREATEST_ABSOLUTE_NUMBER}
use Rattle.grid.specs.Place.{Scaling, Transform, absolute}
use Rattle.grid.specs.Fault.{at_element}
use Rattle.grid.specs.declared.pos.Pos.{Pos}
use Rattle.grid.specs.declared.transform.AxisFault.{AxisFault}
use Rattle.grid.specs.declared.transform.AxisFault.TheVariants.{OffGrid, OutOfRange}
use Rattle.grid.specs.declared.transform.GridFault.{GridFault}

-- the scale divides d
abbrev pub divides : ℤ → ℤ → Bool
divides scale d = nat_eq (unsigned_abs (int_rem d scale)) 0

-- whether a number is a grid number
abbrev pub is_grid_number : ℤ → Bool
is_grid_number n = int_le LEAST_GRID_NUMBER n && int_le n GREATEST_GRID_NUMBER

abbrev pub is_absolute : ℤ → Bool
is_absolute a = int_le LEAST_ABSOLUTE_NUMBER a && int_le a GREATEST_ABSOLUTE_NUMBER

-- whether the grid number and its absolute number are within their limits
abbrev pub fits_axis : Scaling → ℤ → Bool
fits_axis s n = is_grid_number n && is_absolute (absolute s n)

-- by whether the number is on the grid, and within the limits
abbrev pub number_by : Bool → Bool → ℤ → Result ℤ AxisFault
number_by false within n = Err OffGrid
number_by true false n = Err OutOfRange
number_by true true n = Ok n

-- the grid number of a, or its fault
abbrev pub axis_number : Scaling → ℤ → Result ℤ AxisFault
axis_number s a =
    let q : ℤ = int_div (a -ℤ s.translate) s.scale in
    number_by (divides s.scale (a -ℤ s.translate)) (is_grid_number q && is_absolute a) q

-- two grid numbers, or the first fault
abbrev pub both_numbers : Result ℤ AxisFault → Result ℤ AxisFault → Result (ℤ × ℤ) GridFault
both_numbers (Err f) other = Err (at_element 0 f)
both_numbers (Ok m) (Err g) = Err (at_element 1 g)
both_numbers (Ok m) (Ok n) = Ok (m, n)

-- the two grid numbers of an absolute place, or its fault, x checked before y
abbrev pub place_numbers : Transform → ℤ × ℤ → Result (ℤ × ℤ) GridFault
place_numbers t a = both_numbers (axis_number t.x a.0) (axis_number t.y a.1)

-- an answer with the numbers of its position
abbrev pub numbers_of : Result Pos GridFault → Result (ℤ × ℤ) GridFault
numbers_of (Ok p) = Ok (p.x, p.y)
numbers_of (Err f) = Err f
