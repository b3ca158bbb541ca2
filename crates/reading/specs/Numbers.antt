-- Number elements.
use Rattle.std.specs.Prelude.{ℤ, pos, List, Option, Some, None, option_and_then, unwrap_or}
use Rattle.serde_json.specs.Data.{Num, Data}
use Rattle.serde_json.specs.Find.{as_number, as_i64}
use Rattle.faults.specs.Fault.{Pair}
use Rattle.faults.specs.declared.fault.FaultKind.TheVariants.{WrongKind, NotWhole}
use Rattle.reading.specs.Fault.{here}

abbrev pub whole_faults : (ℤ → List Pair) → Option ℤ → List Pair
whole_faults more None = here NotWhole
whole_faults more (Some a) = more a

abbrev pub number_faults : (ℤ → List Pair) → Option Num → List Pair
number_faults more None = here WrongKind
number_faults more (Some n) = whole_faults more (as_i64 n)

-- a number element, with what else is asked of the number
abbrev pub element_faults : (ℤ → List Pair) → Data → List Pair
element_faults more d = number_faults more (as_number d)

-- the whole number of a number element, 0 where it is none
abbrev pub whole_of : Data → ℤ
whole_of d = unwrap_or (option_and_then as_i64 (as_number d)) (pos 0)
