-- Faults of arrays, objects and members, by the faults of their parts.
use Rattle.std.specs.Prelude.{◌≡◌, ℕ, ◌+◌, List, [], ◌∷◌, ◌++◌, Option, Some, None, Result, Ok, Err, codes, is_some, if◌then◌else◌}
use Rattle.std.specs.Str.{bytes_eq}
use Rattle.serde_json.specs.Data.{Data, Items, no_items, item, Members, no_members, member}
use Rattle.serde_json.specs.Find.{get, as_null, as_str, as_array}
use Rattle.faults.specs.Path.{name, index}
use Rattle.faults.specs.Fault.{Pair}
use Rattle.faults.specs.declared.fault.FaultKind.{FaultKind}
use Rattle.faults.specs.declared.fault.FaultKind.TheVariants.{Missing, WrongKind, UnknownType, NotTwo}
use Rattle.reading.specs.Fault.{here, under}

-- ---- arrays

abbrev pub list_of : Items → List Data
list_of no_items = []
list_of (item d ds) = d ∷ list_of ds

-- of the wrong kind where it is no array, else what its elements have
abbrev pub array_faults : (List Data → List Pair) → Option Items → List Pair
array_faults within None = here WrongKind
array_faults within (Some ds) = within (list_of ds)

-- each element's faults, the first element having that index
abbrev pub each_faults : (Data → List Pair) → ℕ → List Data → List Pair
each_faults of i [] = []
each_faults of i (d ∷ ds) = under (index i) (of d) ++ each_faults of (i + 1) ds

-- a list of parts that have these faults
abbrev pub list_faults : (Data → List Pair) → Data → List Pair
list_faults of d = array_faults (each_faults of 0) (as_array d)

-- two parts, and nothing else
abbrev pub two_faults : (Data → List Pair) → (Data → List Pair) → List Data → List Pair
two_faults first second (x ∷ y ∷ []) = under (index 0) (first x) ++ under (index 1) (second y)
two_faults first second _ = here NotTwo

-- the faults of an array of exactly two elements, each with faults of its own
abbrev pub pair_faults : (Data → List Pair) → (Data → List Pair) → Data → List Pair
pair_faults first second d = array_faults (two_faults first second) (as_array d)

abbrev pub elements_of : Option Items → List Data
elements_of None = []
elements_of (Some ds) = list_of ds

-- the elements of an array
abbrev pub elements : Data → List Data
elements d = elements_of (as_array d)

-- ---- members

-- the faults of a member's value; `Missing` where there is no such member
abbrev pub there : (Data → List Pair) → Option Data → List Pair
there of None = here Missing
there of (Some d) = of d

-- a member that has to be there
abbrev pub member_faults : List ℕ → (Data → List Pair) → Data → List Pair
member_faults n of d = under (name n) (there of (get n d))

abbrev pub if_there : (Data → List Pair) → Option Data → List Pair
if_there of None = []
if_there of (Some d) = of d

-- a member that may be missing
abbrev pub option_faults : List ℕ → (Data → List Pair) → Data → List Pair
option_faults n of d = under (name n) (if_there of (get n d))

-- null has none
abbrev pub unless_null : (Data → List Pair) → Data → List Pair
unless_null of d = if is_some (as_null d) then [] else of d

-- each member of an object, in the order of the names
abbrev pub each_member_faults : (Data → List Pair) → Members → List Pair
each_member_faults of no_members = []
each_member_faults of (member k d ms) = under (name k) (of d) ++ each_member_faults of ms

-- the members mean these values under their names, in their order
abbrev pub MeanMembers : {X : Type 0} → (Data → X → Type 0) → Members → List (List ℕ × X) → Type 0
MeanMembers R no_members [] = Unit {0}
MeanMembers R no_members (x ∷ xs) = ⊥
MeanMembers R (member k d ms) [] = ⊥
MeanMembers R (member k d ms) (x ∷ xs) = ((x.0 ≡ k) × R d x.1) × MeanMembers R ms xs

-- of the wrong kind where it is no object, else what is within
abbrev pub object_faults : List Pair → Option Members → List Pair
object_faults within None = here WrongKind
object_faults within (Some ms) = within

-- an object of members that have these faults
abbrev pub members_faults : (Data → List Pair) → Option Members → List Pair
members_faults of None = here WrongKind
members_faults of (Some ms) = each_member_faults of ms

-- ---- the member `type`

abbrev pub text_or_fault : Option (List ℕ) → Result (List ℕ) FaultKind
text_or_fault None = Err WrongKind
text_or_fault (Some s) = Ok s

abbrev pub type_or_fault : Option Data → Result (List ℕ) FaultKind
type_or_fault None = Err Missing
type_or_fault (Some d) = text_or_fault (as_str d)

-- the text of the member `type`
abbrev pub type_text : Data → Result (List ℕ) FaultKind
type_text d = type_or_fault (get (codes "type") d)

-- the kind that a text names, where it names one
abbrev pub named : {K : Type 0} → (List ℕ → Result K FaultKind) → Result (List ℕ) FaultKind → Result K FaultKind
named kind (Err k) = Err k
named kind (Ok s) = kind s

-- the one type that an object may have
abbrev pub of_type : List ℕ → List ℕ → Result Unit FaultKind
of_type wanted s = if bytes_eq s wanted then Ok tt else Err UnknownType

-- a faulty type silences the rest of its object
abbrev pub typed_faults : {K : Type 0} → (K → List Pair) → Result K FaultKind → List Pair
typed_faults rest (Err k) = under (name (codes "type")) (here k)
typed_faults rest (Ok k) = rest k

-- the two elements of a list mean x and y
abbrev pub IsPair : {X Y : Type 0} → (Data → X → Type 0) → (Data → Y → Type 0) → List Data → X → Y → Type 0
IsPair R S (a ∷ b ∷ []) x y = R a x × S b y
IsPair R S _ x y = ⊥
