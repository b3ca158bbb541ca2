-- Faults of a value: pairs of a path and a kind, their order, and the first of them.
use Rattle.std.specs.Prelude.{◌≡◌, List, [], ◌∷◌, map, All, Contains, IsTrue}
use Rattle.std.specs.Ordering.{nat_cmp, ordering_then, is_le}
use Rattle.std.specs.declared.cmp.Ordering.{Ordering}
use Rattle.std.specs.declared.cmp.Ordering.TheVariants.{Less, Greater}
use Rattle.std.specs.Cmp.Lexicographic.{slice_cmp}
use Rattle.faults.specs.Path.{Turn, name, index}
use Rattle.faults.specs.Fault.{Pair, prefixed, pair_of, number_of}
use Rattle.faults.specs.declared.fault.FaultKind.{FaultKind}
use Rattle.faults.specs.declared.fault.FaultKind.TheVariants.{OutOfMemory}
use Rattle.faults.specs.declared.fault.Fault.{Fault}

-- names by their bytes, indexes as numbers
abbrev pub turn_cmp : Turn → Turn → Ordering
turn_cmp (name a) (name b) = slice_cmp nat_cmp a b
turn_cmp (index i) (index j) = nat_cmp i j
turn_cmp (name a) (index j) = Less
turn_cmp (index i) (name b) = Greater

-- a path comes before its continuations
abbrev pub path_cmp : List Turn → List Turn → Ordering
path_cmp = slice_cmp turn_cmp

-- by path, then by number
abbrev pub pair_cmp : Pair → Pair → Ordering
pair_cmp p q = ordering_then (path_cmp p.path q.path) (nat_cmp (number_of p.kind) (number_of q.kind))

abbrev pub IsUpto : Pair → Pair → Type 0
IsUpto p q = IsTrue (is_le (pair_cmp p q))

-- one of them, and none of them comes before it
pub record IsLeast (ps : List Pair) (p : Pair) : Type 0 where
  pub present : Contains ps p
  pub first : All (IsUpto p) ps

-- the fault is the first of these, unless memory was refused
pub record LeastOrWant (ps : List Pair) (f : Fault) : Type 0 where
  pub least : (f.kind ≡ OutOfMemory → ⊥) → IsLeast ps (pair_of f)

-- one fault, at the value itself
abbrev pub here : FaultKind → List Pair
here k = record { path = []; kind = k } ∷ []

-- the faults of a part, as faults of the whole
abbrev pub under : Turn → List Pair → List Pair
under t = map (prefixed t)

-- where the first have a fault, the others do not count
abbrev pub unless_faulty : List Pair → List Pair → List Pair
unless_faulty [] others = others
unless_faulty (p ∷ ps) others = p ∷ ps
