-- Faults that count only where others have none.
use Rattle.std.proofs.Common.{◌≡◌, List, [], ◌∷◌, arith, refl}
use Rattle.faults.specs.Fault.{Pair}
use Rattle.faults.specs.declared.fault.Fault.{Fault}
use Rattle.reading.specs.Fault.{LeastOrWant, unless_faulty}

-- a fault of the first is the fault of both
pub faulty_part : (ps qs : List Pair) (f : Fault) → LeastOrWant ps f → LeastOrWant (unless_faulty ps qs) f
faulty_part [] qs f h = record { least = λ real. let none = (h.least real).present in absurd (omega (arith, none.1)) }
faulty_part (p ∷ ps) qs f h = h

-- where the first have none, the others count
pub faultless_part : (ps qs : List Pair) (f : Fault) → ps ≡ [] → LeastOrWant qs f → LeastOrWant (unless_faulty ps qs) f
faultless_part ps qs f none h = rw none h

pub faultless : (ps qs : List Pair) → ps ≡ [] → qs ≡ [] → unless_faulty ps qs ≡ []
faultless ps qs none also = rw (none, also) refl

pub ruleset judged_after = (faulty_part, faultless_part, faultless)
