-- Lists of numbers of arcs, and the positions that they are stitched to.
use Rattle.std.specs.Prelude.{◌≡◌, ℕ, ◌+◌, ◌-◌, Bool, true, false, ◌&&◌, nat_lt, is_some, List, [], ◌++◌, length, map, reverse, drop, slice_get, Option, Some, None, option_map, unwrap_or, Result, Ok, Err, if◌then◌else◌}
use Rattle.json.specs.Json.{Json, Items, no_items, item}
use Rattle.json.specs.Find.{as_array, as_number}
use Rattle.faults.specs.Path.{index}
use Rattle.faults.specs.Fault.{Pair}
use Rattle.faults.specs.declared.fault.FaultKind.{FaultKind}
use Rattle.faults.specs.declared.fault.FaultKind.TheVariants.{WrongKind, NotWhole, NoArc, Broken}
use Rattle.fixing.specs.declared.rules.FixingRules.{FixingRules}
use Rattle.grid.specs.declared.pos.Pos.{Pos}
use Rattle.lines.specs.Pairs.{position_eq}
use Rattle.numerals.specs.Whole.{whole_of}
use Rattle.reading.specs.Fault.{here, under, unless_faulty}
use Rattle.reading.specs.Outlines.{outline_faults}
use Rattle.decimal_faults.specs.Outlines.{unfixed_as}
use Rattle.decimal_faults.specs.Parts.{array_faults}
use Rattle.decimal_faults.specs.declared.outline.Outline.{Outline}
use Rattle.decimal_maps.specs.declared.tally.Tally.{Tally}
use Rattle.decimal_arcs.specs.Seen.{Arcs}
use Rattle.decimal_arcs.specs.Tallies.{with_places}
use Rattle.decimal_arcs.specs.declared.place.Place.{Place}
use Rattle.decimal_topologies.specs.declared.numbers.ArcRef.{ArcRef}

-- ---- numbers of arcs

-- n is the arc of that number, and -1 - n the same arc backwards [TopoJSON, 2.1.4]
abbrev pub ref_at : Bool → ℕ → ArcRef
ref_at false size = record { arc = size; backwards = false }
ref_at true size = record { arc = size - 1; backwards = true }

-- there are so many arcs
abbrev pub within : ℕ → ArcRef → Result ArcRef FaultKind
within n u = if nat_lt u.arc n then Ok u else Err NoArc

abbrev pub whole_ref : ℕ → Option (Bool × ℕ) → Result ArcRef FaultKind
whole_ref n None = Err NotWhole
whole_ref n (Some w) = within n (ref_at w.0 w.1)

abbrev pub number_ref : ℕ → Option (List ℕ) → Result ArcRef FaultKind
number_ref n None = Err WrongKind
number_ref n (Some text) = whole_ref n (whole_of text)

-- the arc that a value names, of so many, or the kind of the value's fault: it is a whole number, and that of an arc
-- [TopoJSON, 2.1.4]
abbrev pub ref_of : ℕ → Json → Result ArcRef FaultKind
ref_of n j = number_ref n (as_number j)

-- ---- the places along an arc

abbrev pub if_known : Option (Option (List Place)) → Option (List Place)
if_known None = None
if_known (Some known) = known

-- places in their order, or backwards
abbrev pub directed : Bool → List Place → List Place
directed false ps = ps
directed true ps = reverse ps

-- the places along an arc, where they are known
abbrev pub along : Arcs → ArcRef → Option (List Place)
along arcs u = option_map (directed u.backwards) (if_known (slice_get arcs u.arc))

-- the same of the arc that a value names
abbrev pub along_if : Arcs → Result ArcRef FaultKind → Option (List Place)
along_if arcs (Err k) = None
along_if arcs (Ok u) = along arcs u

abbrev pub position_at : Option Place → Option Pos
position_at = option_map (λ p. p.at)

-- where the places begin
abbrev pub begins : Option (List Place) → Option Pos
begins None = None
begins (Some ps) = position_at (slice_get ps 0)

-- where they end
abbrev pub ends : Option (List Place) → Option Pos
ends None = None
ends (Some ps) = position_at (slice_get ps (length ps - 1))

-- ---- faults of the numbers

-- `Broken` where an arc begins elsewhere than the one before ends, and both are known [TopoJSON, 2.1.4]
abbrev pub joint_faults : Option Pos → Option Pos → List Pair
joint_faults None q = []
joint_faults (Some p) None = []
joint_faults (Some p) (Some q) = if position_eq p q then [] else here Broken

-- the fault of a number, where the arc before ends there
abbrev pub number_faults : Arcs → Option Pos → Result ArcRef FaultKind → List Pair
number_faults arcs end (Err k) = here k
number_faults arcs end (Ok u) = joint_faults end (begins (along arcs u))

-- the faults of numbers, the first of them having that index
abbrev pub numbers_faults : Arcs → Option Pos → ℕ → Items → List Pair
numbers_faults arcs end i no_items = []
numbers_faults arcs end i (item j js) =
    under (index i) (number_faults arcs end (ref_of (length arcs) j)) ++ numbers_faults arcs (ends (along_if arcs (ref_of (length arcs) j))) (i + 1) js

-- ---- stitching

-- the places without the first, where others come before
abbrev pub behind : Bool → List Place → List Place
behind false ps = ps
behind true ps = drop 1 ps

-- the places along the arc that a value names, none where they are not known
abbrev pub places_at : Arcs → Json → List Place
places_at arcs j = unwrap_or (along_if arcs (ref_of (length arcs) j)) []

-- the places along arcs one after another, each arc but the first without its first place; others may come before the
-- first arc too [TopoJSON, 2.1.4]
abbrev pub stitched_behind : Arcs → Bool → Items → List Place
stitched_behind arcs more no_items = []
stitched_behind arcs more (item j js) = behind more (places_at arcs j) ++ stitched_behind arcs true js

-- the places that a list of numbers of arcs is stitched to [TopoJSON, 2.1.4]
abbrev pub stitched : Arcs → Items → List Place
stitched arcs js = stitched_behind arcs false js

-- their positions
abbrev pub positions_along : Arcs → Items → List Pos
positions_along arcs js = map (λ p. p.at) (stitched arcs js)

-- whether the places of all these arcs are known
abbrev pub are_known : Arcs → Items → Bool
are_known arcs no_items = true
are_known arcs (item j js) = is_some (along_if arcs (ref_of (length arcs) j)) && are_known arcs js

-- the faults of the line or ring that arcs are stitched to; none where the places of one are not known
abbrev pub stitched_faults : Arcs → FixingRules → Outline → Items → List Pair
stitched_faults arcs fixing outline js = if are_known arcs js then outline_faults (unfixed_as fixing outline (positions_along arcs js)) else []

-- a list of numbers of arcs, then the line or ring that these are stitched to
abbrev pub items_faults : Arcs → FixingRules → Outline → Items → List Pair
items_faults arcs fixing outline js = unless_faulty (numbers_faults arcs None 0 js) (stitched_faults arcs fixing outline js)

-- the faults of the arcs of a line or ring that the fixing rules leave [TopoJSON, 2.1.4; own]
abbrev pub arcs_outline_faults : Arcs → FixingRules → Outline → Json → List Pair
arcs_outline_faults arcs fixing outline j = array_faults (items_faults arcs fixing outline) (as_array j)

-- ---- meaning

-- an array of numbers of arcs without a fault, and the positions that they are stitched to; what is counted goes from a to b
pub record IsStitched (arcs : Arcs) (j : Json) (ps : List Pos) (a b : Tally) : Type 0 where
  pub items : Items
  pub is : Some items ≡ as_array j
  pub faultless : numbers_faults arcs None 0 items ≡ []
  pub positions : ps ≡ positions_along arcs items
  pub counted : b ≡ with_places (stitched arcs items) a
