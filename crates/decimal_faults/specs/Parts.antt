-- Faults of arrays, objects and members of JSON, by the faults of their parts.
use Rattle.std.specs.Prelude.{ℕ, ◌+◌, List, [], ◌++◌, Option, Some, None, Result, Err, codes, if◌then◌else◌}
use Rattle.json.specs.Json.{Json, Items, no_items, item, Members}
use Rattle.json.specs.Find.{get, is_null, as_str, as_array}
use Rattle.faults.specs.Path.{name, index}
use Rattle.faults.specs.Fault.{Pair}
use Rattle.faults.specs.declared.fault.FaultKind.{FaultKind}
use Rattle.faults.specs.declared.fault.FaultKind.TheVariants.{Missing, WrongKind}
use Rattle.reading.specs.Fault.{here, under}
use Rattle.reading.specs.Parts.{text_or_fault}

-- of the wrong kind where it is no array, else what its items have
abbrev pub array_faults : (Items → List Pair) → Option Items → List Pair
array_faults within None = here WrongKind
array_faults within (Some js) = within js

-- each item's faults, the first item having that index
abbrev pub each_faults : (Json → List Pair) → ℕ → Items → List Pair
each_faults of i no_items = []
each_faults of i (item j js) = under (index i) (of j) ++ each_faults of (i + 1) js

-- a list of parts that have these faults
abbrev pub list_faults : (Json → List Pair) → Json → List Pair
list_faults of j = array_faults (each_faults of 0) (as_array j)

-- the faults of a member's value; `Missing` where there is no such member
abbrev pub there : (Json → List Pair) → Option Json → List Pair
there of None = here Missing
there of (Some j) = of j

-- a member that has to be there
abbrev pub member_faults : List ℕ → (Json → List Pair) → Json → List Pair
member_faults n of j = under (name n) (there of (get n j))

abbrev pub if_there : (Json → List Pair) → Option Json → List Pair
if_there of None = []
if_there of (Some j) = of j

-- a member that may be missing
abbrev pub option_faults : List ℕ → (Json → List Pair) → Json → List Pair
option_faults n of j = under (name n) (if_there of (get n j))

-- null has none
abbrev pub unless_null : (Json → List Pair) → Json → List Pair
unless_null of j = if is_null j then [] else of j

-- of the wrong kind where it is no object, else what is within
abbrev pub object_faults : List Pair → Option Members → List Pair
object_faults within None = here WrongKind
object_faults within (Some ms) = within

-- of the wrong kind where it is no number, else what its numeral has
abbrev pub numeral_faults : (List ℕ → List Pair) → Option (List ℕ) → List Pair
numeral_faults of None = here WrongKind
numeral_faults of (Some text) = of text

abbrev pub type_or_fault : Option Json → Result (List ℕ) FaultKind
type_or_fault None = Err Missing
type_or_fault (Some j) = text_or_fault (as_str j)

-- the text of the member `type`
abbrev pub type_text : Json → Result (List ℕ) FaultKind
type_text j = type_or_fault (get (codes "type") j)
