-- The names of faults, and which numbers have none.
use Rattle.std.specs.Prelude.{◌≡◌, ◌<◌, ◌⊎◌, ℕ, List}
use Rattle.faults.specs.Fault.{name_of, number_of}
use Rattle.faults.specs.declared.fault.FaultKind.{FaultKind}
use Rattle.c_calls.specs.declared.refusal.CallRefusal.{CallRefusal}
use Rattle.c_calls.specs.declared.refusal.CallRefusal.TheVariants.{BadChoice, OutOfMemory}

-- t is the name of the kind of fault with the number
abbrev pub IsFaultName : ℕ → List ℕ → Type 0
IsFaultName n t = (kind : FaultKind) × ((number_of kind ≡ n) × (t ≡ name_of kind))

-- no fault has the number, or memory was refused
abbrev pub IsNameless : ℕ → CallRefusal → Type 0
IsNameless n r = (r ≡ OutOfMemory) ⊎ ((r ≡ BadChoice) × ((n ≡ 0) ⊎ (21 < n)))
