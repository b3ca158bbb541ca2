-- Members that have faults.
use Rattle.std.proofs.Common.{◌≡◌, ◌≢◌, ℕ, List, [], Some, sym, subst}
use Rattle.json.specs.Json.{Json}
use Rattle.json.specs.Find.{get}
use Rattle.faults.specs.Path.{name}
use Rattle.faults.specs.Fault.{Pair}
use Rattle.reading.specs.Fault.{under}
use Rattle.reading.proofs.Faultless.{under_none}
use Rattle.decimal_faults.specs.Parts.{there, if_there, member_faults, option_faults}

pub faulty_member : (n : List ℕ) (of : Json → List Pair) (j k : Json) → Some k ≡ get n j → of k ≢ [] → member_faults n of j ≢ []
faulty_member n of j k is faulty none = faulty (under_none (name n) (of k) (subst (λ o. under (name n) (there of o) ≡ []) (sym is) none))

pub faulty_option : (n : List ℕ) (of : Json → List Pair) (j k : Json) → Some k ≡ get n j → of k ≢ [] → option_faults n of j ≢ []
faulty_option n of j k is faulty none = faulty (under_none (name n) (of k) (subst (λ o. under (name n) (if_there of o) ≡ []) (sym is) none))
