-- The table of arcs: their faults, and the positions along them [TopoJSON, 2.1.3; own].
use Rattle.std.specs.Prelude.{ℕ, ◌+◌, Bool, true, false, List, [], ◌∷◌, ◌++◌, Option, Some, None}
use Rattle.json.specs.Json.{Json, Items, no_items, item}
use Rattle.json.specs.Find.{as_array}
use Rattle.faults.specs.Path.{index}
use Rattle.faults.specs.Fault.{Pair}
use Rattle.faults.specs.declared.fault.FaultKind.TheVariants.{TooShort}
use Rattle.reading.specs.Fault.{here, under}
use Rattle.decimal_faults.specs.Parts.{array_faults}
use Rattle.decimal_arcs.specs.Places.{first_sums, next_sums, place_behind, step_faults}
use Rattle.decimal_arcs.specs.Seen.{Arcs}
use Rattle.decimal_arcs.specs.declared.place.Place.{Place}
use Rattle.decimal_arcs.specs.declared.place.Quantization.{Quantization}
use Rattle.decimal_arcs.specs.declared.places.RunningSums.{RunningSums}

-- the faults of positions behind sums, the first having that index [TopoJSON, 2.1.3]
abbrev pub steps_faults : Quantization → RunningSums → ℕ → Items → List Pair
steps_faults q s i no_items = []
steps_faults q s i (item j js) = under (index i) (step_faults q s j) ++ steps_faults q (next_sums q s j) (i + 1) js

-- `TooShort` where there is no position
abbrev pub arc_items_faults : Quantization → Items → List Pair
arc_items_faults q no_items = here TooShort
arc_items_faults q (item j js) = steps_faults q first_sums 0 (item j js)

-- the faults of an arc [TopoJSON, 2.1.3; own]
abbrev pub arc_faults : Quantization → Json → List Pair
arc_faults q j = array_faults (arc_items_faults q) (as_array j)

-- the rounded positions behind sums [TopoJSON, 2.1.3]
abbrev pub places_behind : Quantization → RunningSums → Items → List Place
places_behind q s no_items = []
places_behind q s (item j js) = place_behind q s j ∷ places_behind q (next_sums q s j) js

abbrev pub places_in : Quantization → Option Items → List Place
places_in q None = []
places_in q (Some js) = places_behind q first_sums js

-- the rounded positions along an arc: each is rounded once, from the sum of all differences up to it
-- [TopoJSON, 2.1.2 and 2.1.3]
abbrev pub places_of : Quantization → Json → List Place
places_of q j = places_in q (as_array j)

abbrev pub unless_any : List Pair → List Place → Option (List Place)
unless_any [] ps = Some ps
unless_any (f ∷ fs) ps = None

-- an arc without a fault
abbrev pub arc_of : Quantization → Json → Option (List Place)
arc_of q j = unless_any (arc_faults q j) (places_of q j)

-- the faults of an arc, if it is used
abbrev pub faults_if : Bool → Quantization → Json → List Pair
faults_if false q j = []
faults_if true q j = arc_faults q j

-- the faults of the arcs that are used, the first arc having that index
abbrev pub arcs_faults : Quantization → List Bool → ℕ → Items → List Pair
arcs_faults q [] i js = []
arcs_faults q (u ∷ us) i no_items = []
arcs_faults q (u ∷ us) i (item j js) = under (index i) (faults_if u q j) ++ arcs_faults q us (i + 1) js

-- an arc, if it is used
abbrev pub arc_if : Bool → Quantization → Json → Option (List Place)
arc_if false q j = None
arc_if true q j = arc_of q j

-- the table: none of an arc that isn't used, or that has a fault
abbrev pub arcs_of : Quantization → List Bool → Items → Arcs
arcs_of q [] js = []
arcs_of q (u ∷ us) no_items = []
arcs_of q (u ∷ us) (item j js) = arc_if u q j ∷ arcs_of q us js
