-- The numbers and names of faults, and what a fault says: a path and a kind.
use Rattle.std.specs.Prelude.{◌≡◌, ℕ, List, ◌∷◌, map, codes, string_bytes}
use Rattle.faults.specs.Path.{Turn, name, index}
use Rattle.faults.specs.declared.fault.FaultKind.{FaultKind}
use Rattle.faults.specs.declared.fault.FaultKind.TheVariants.{NotJson, Missing, WrongKind, UnknownType, NotWhole, OutOfRange, OffGrid, TooShort, NotClosed, Revisit, NoArc, Broken, PropertyNumber, PropertyDepth, NoTransform, NotTwo, OtherGrid, BadPlan, NoLayer, OutOfMemory, Write}
use Rattle.faults.specs.declared.fault.Step.{Step}
use Rattle.faults.specs.declared.fault.Step.TheVariants.{Name, Index}
use Rattle.faults.specs.declared.fault.Fault.{Fault}

-- the number of a kind of fault
abbrev pub number_of : FaultKind → ℕ
number_of NotJson = 1
number_of Missing = 2
number_of WrongKind = 3
number_of UnknownType = 4
number_of NotWhole = 5
number_of OutOfRange = 6
number_of OffGrid = 7
number_of TooShort = 8
number_of NotClosed = 9
number_of Revisit = 10
number_of NoArc = 11
number_of Broken = 12
number_of PropertyNumber = 13
number_of PropertyDepth = 14
number_of NoTransform = 15
number_of NotTwo = 16
number_of OtherGrid = 17
number_of BadPlan = 18
number_of NoLayer = 19
number_of OutOfMemory = 20
number_of Write = 21

-- the bytes of a kind's name
abbrev pub name_of : FaultKind → List ℕ
name_of NotJson = codes "NotJson"
name_of Missing = codes "Missing"
name_of WrongKind = codes "WrongKind"
name_of UnknownType = codes "UnknownType"
name_of NotWhole = codes "NotWhole"
name_of OutOfRange = codes "OutOfRange"
name_of OffGrid = codes "OffGrid"
name_of TooShort = codes "TooShort"
name_of NotClosed = codes "NotClosed"
name_of Revisit = codes "Revisit"
name_of NoArc = codes "NoArc"
name_of Broken = codes "Broken"
name_of PropertyNumber = codes "PropertyNumber"
name_of PropertyDepth = codes "PropertyDepth"
name_of NoTransform = codes "NoTransform"
name_of NotTwo = codes "NotTwo"
name_of OtherGrid = codes "OtherGrid"
name_of BadPlan = codes "BadPlan"
name_of NoLayer = codes "NoLayer"
name_of OutOfMemory = codes "OutOfMemory"
name_of Write = codes "Write"

-- a fault of a value, as a definition lists it
pub record Pair : Type 0 where
  pub path : List Turn
  pub kind : FaultKind

-- the fault of a part, as a fault of the whole
abbrev pub prefixed : Turn → Pair → Pair
prefixed t p = record { path = t ∷ p.path; kind = p.kind }

-- a step of a path, seen as its name's bytes or its index
abbrev pub turn_of : Step → Turn
turn_of (Name s) = name (string_bytes s)
turn_of (Index i) = index i

-- what a fault says
abbrev pub pair_of : Fault → Pair
pair_of f = record { path = map turn_of f.path.items; kind = f.kind }

-- memory was refused
abbrev pub IsWant : Fault → Type 0
IsWant f = f.kind ≡ OutOfMemory

-- the fault of a part, told of the whole, unless memory was refused
pub record Lifted (t : Turn) (old new : Fault) : Type 0 where
  pub was : (new.kind ≡ OutOfMemory → ⊥) → old.kind ≡ OutOfMemory → ⊥
  pub at : (new.kind ≡ OutOfMemory → ⊥) → pair_of new ≡ prefixed t (pair_of old)
