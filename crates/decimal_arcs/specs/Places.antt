-- Positions of topologies: their faults, and what they become [TopoJSON, 2.1.3; own].
use Rattle.std.specs.Prelude.{ℕ, ℤ, pos, ◌+◌, max, List, [], ◌++◌, Option, Some, None, option_map, Result, Ok, Err, unwrap_or, if◌then◌else◌}
use Rattle.json.specs.Json.{Json, Items, no_items, item}
use Rattle.json.specs.Find.{as_array}
use Rattle.faults.specs.Path.{index}
use Rattle.faults.specs.Fault.{Pair}
use Rattle.faults.specs.declared.fault.FaultKind.{FaultKind}
use Rattle.faults.specs.declared.fault.FaultKind.TheVariants.{NotTwo}
use Rattle.reading.specs.Fault.{here, under}
use Rattle.reading.specs.Positions.{position_at}
use Rattle.decimal_faults.specs.Parts.{array_faults, each_faults}
use Rattle.decimal_faults.specs.Positions.{height_faults, may_have}
use Rattle.decimal_arcs.specs.Axes.{x_number, y_number}
use Rattle.decimal_arcs.specs.declared.axes.Reached.{Reached}
use Rattle.decimal_arcs.specs.declared.place.Place.{Place}
use Rattle.decimal_arcs.specs.declared.place.Quantization.{Quantization}
use Rattle.decimal_arcs.specs.declared.places.RunningSums.{RunningSums}
use Rattle.decimal_arcs.specs.declared.places.BothNumbers.{BothNumbers}

-- ---- what both numbers lead to

-- the fault of a number, if it has one
abbrev pub fault_in : Result (Option Reached) FaultKind → List Pair
fault_in (Err k) = here k
fault_in (Ok r) = []

-- what a number leads to, where that is known
abbrev pub found_in : Result (Option Reached) FaultKind → Option Reached
found_in (Err k) = None
found_in (Ok r) = r

-- the sum at a number, where it is known
abbrev pub sum_in : Result (Option Reached) FaultKind → Option ℤ
sum_in r = option_map (λ f. f.sum) (found_in r)

-- the number of steps at a number, 0 where it isn't known
abbrev pub at_in : Result (Option Reached) FaultKind → ℤ
at_in r = unwrap_or (option_map (λ f. f.at) (found_in r)) (pos 0)

-- how far it was moved, 0 where that isn't known
abbrev pub far_in : Result (Option Reached) FaultKind → ℕ
far_in r = unwrap_or (option_map (λ f. f.far) (found_in r)) 0

-- what the first two numbers of a position lead to, behind the sums of those before
abbrev pub both_of : Quantization → RunningSums → Json → Json → BothNumbers
both_of q s x y = record { x = x_number q s.x x; y = y_number q s.y y }

-- the faults of the first two numbers
abbrev pub both_faults : BothNumbers → List Pair
both_faults b = under (index 0) (fault_in b.x) ++ under (index 1) (fault_in b.y)

-- the sums behind them
abbrev pub sums_in : BothNumbers → RunningSums
sums_in b = record { x = sum_in b.x; y = sum_in b.y }

-- the rounded position, with so many heights
abbrev pub place_in : BothNumbers → ℕ → Place
place_in b heights = record { at = position_at (at_in b.x) (at_in b.y); far = max (far_in b.x) (far_in b.y); heights = heights }

-- nothing is known of the sums
abbrev pub no_sums : RunningSums
no_sums = record { x = None; y = None }

-- the sums before the first difference
abbrev pub first_sums : RunningSums
first_sums = record { x = Some (pos 0); y = Some (pos 0) }

-- the position of an array that is none
abbrev pub no_place : Place
no_place = record { at = position_at (pos 0) (pos 0); far = 0; heights = 0 }

-- how many items there are
abbrev pub count_of : Items → ℕ
count_of no_items = 0
count_of (item j js) = 1 + count_of js

-- ---- positions behind others

-- the faults of two numbers, and of the heights behind them
abbrev pub two_faults : Quantization → RunningSums → Items → List Pair
two_faults q s no_items = []
two_faults q s (item x no_items) = []
two_faults q s (item x (item y js)) = both_faults (both_of q s x y) ++ each_faults height_faults 2 js

-- two numbers, and heights behind them where they are not refused
abbrev pub numbers_faults : Quantization → RunningSums → Items → List Pair
numbers_faults q s js = if may_have q.grid js then two_faults q s js else here NotTwo

-- the faults of a position, behind the sums of those before [TopoJSON, 2.1.3]
abbrev pub step_faults : Quantization → RunningSums → Json → List Pair
step_faults q s j = array_faults (numbers_faults q s) (as_array j)

-- the sums behind a position
abbrev pub sums_of_two : Quantization → RunningSums → Items → RunningSums
sums_of_two q s no_items = no_sums
sums_of_two q s (item x no_items) = no_sums
sums_of_two q s (item x (item y js)) = sums_in (both_of q s x y)

abbrev pub sums_of_items : Quantization → RunningSums → Option Items → RunningSums
sums_of_items q s None = no_sums
sums_of_items q s (Some js) = if may_have q.grid js then sums_of_two q s js else no_sums

-- the sums behind a position [TopoJSON, 2.1.3]
abbrev pub next_sums : Quantization → RunningSums → Json → RunningSums
next_sums q s j = sums_of_items q s (as_array j)

-- the place of a position
abbrev pub place_of_two : Quantization → RunningSums → Items → Place
place_of_two q s no_items = no_place
place_of_two q s (item x no_items) = no_place
place_of_two q s (item x (item y js)) = place_in (both_of q s x y) (count_of js)

abbrev pub place_of_items : Quantization → RunningSums → Option Items → Place
place_of_items q s None = no_place
place_of_items q s (Some js) = if may_have q.grid js then place_of_two q s js else no_place

-- the rounded position that an array of numbers leads to, behind the sums of those before [TopoJSON, 2.1.2 and 2.1.3]
abbrev pub place_behind : Quantization → RunningSums → Json → Place
place_behind q s j = place_of_items q s (as_array j)

-- ---- positions alone

-- the faults of the position of a point [TopoJSON, 2.2.1]
abbrev pub position_faults : Quantization → Json → List Pair
position_faults q j = step_faults q first_sums j

-- the rounded position of a point [TopoJSON, 2.2.1]
abbrev pub place_of : Quantization → Json → Place
place_of q j = place_behind q first_sums j
