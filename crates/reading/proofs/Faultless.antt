-- What a value without faults says of its parts.
use Rattle.std.proofs.Common.{◌≡◌, ℕ, ◌+◌, List, [], ◌∷◌, ◌++◌, Option, Some, None, Result, Ok, Err, refl}
use Rattle.std.specs.List.{AllByRecursion}
use Rattle.std.specs.Prelude.{unwrap_or}
use Rattle.serde_json.specs.Data.{Data, null, Items, Members}
use Rattle.serde_json.specs.Find.{get, as_array}
use Rattle.faults.specs.Path.{Turn, name, index}
use Rattle.faults.specs.Fault.{Pair}
use Rattle.faults.specs.declared.fault.FaultKind.{FaultKind}
use Rattle.reading.specs.Fault.{under, unless_faulty}
use Rattle.reading.specs.Info.{member_or_null}
use Rattle.reading.specs.Parts.{list_of, array_faults, each_faults, list_faults, elements_of, elements, there, member_faults, if_there, option_faults, object_faults, typed_faults}
use Rattle.reading.specs.Text.{text_faults}

pub under_none : (t : Turn) (ps : List Pair) → under t ps ≡ [] → ps ≡ []
under_none t [] e = refl
under_none t (p ∷ ps) e = cc

pub first_none : (ps qs : List Pair) → ps ++ qs ≡ [] → ps ≡ []
first_none [] qs e = refl
first_none (p ∷ ps) qs e = cc

pub second_none : (ps qs : List Pair) → ps ++ qs ≡ [] → qs ≡ []
second_none [] qs e = e
second_none (p ∷ ps) qs e = cc

-- where neither has a fault
pub unless_none : (ps qs : List Pair) → unless_faulty ps qs ≡ [] → ps ≡ []
unless_none [] qs e = refl
unless_none (p ∷ ps) qs e = cc

pub unless_none_second : (ps qs : List Pair) → unless_faulty ps qs ≡ [] → qs ≡ []
unless_none_second [] qs e = e
unless_none_second (p ∷ ps) qs e = cc

there_none : (of : Data → List Pair) (o : Option Data) → there of o ≡ [] → of (unwrap_or o null) ≡ []
there_none of None e = cc
there_none of (Some d) e = e

-- a member that has to be there
pub member_none : (n : List ℕ) (of : Data → List Pair) (d : Data) → member_faults n of d ≡ [] → of (member_or_null n d) ≡ []
member_none n of d e = there_none of (get n d) (under_none (name n) _ e)

if_none : (of : Data → List Pair) (P : Data → Type 0) → P null → ((d : Data) → of d ≡ [] → P d) → (o : Option Data) → if_there of o ≡ [] → P (unwrap_or o null)
if_none of P missing found None e = missing
if_none of P missing found (Some d) e = found d e

-- a member that may be missing, and is null then
pub option_none : (n : List ℕ) (of : Data → List Pair) (P : Data → Type 0) → P null → ((d : Data) → of d ≡ [] → P d) → (d : Data) → option_faults n of d ≡ [] → P (member_or_null n d)
option_none n of P missing found d e = if_none of P missing found (get n d) (under_none (name n) _ e)

each_none : (of : Data → List Pair) (P : Data → Type 0) → ((d : Data) → of d ≡ [] → P d) → (i : ℕ) (ds : List Data) → each_faults of i ds ≡ [] → AllByRecursion P ds
each_none of P found i [] e = tt
each_none of P found i (d ∷ ds) e =
    (found d (under_none (index i) (of d) (first_none (under (index i) (of d)) (each_faults of (i + 1) ds) e)), each_none of P found (i + 1) ds (second_none (under (index i) (of d)) (each_faults of (i + 1) ds) e))

array_none : (of : Data → List Pair) (P : Data → Type 0) → ((d : Data) → of d ≡ [] → P d) → (o : Option Items) → array_faults (each_faults of 0) o ≡ [] → AllByRecursion P (elements_of o)
array_none of P found None e = cc
array_none of P found (Some ds) e = each_none of P found 0 (list_of ds) e

-- each element of a list
pub list_none : (of : Data → List Pair) (P : Data → Type 0) → ((d : Data) → of d ≡ [] → P d) → (d : Data) → list_faults of d ≡ [] → AllByRecursion P (elements d)
list_none of P found d e = array_none of P found (as_array d) e

pub object_none : (within : List Pair) (o : Option Members) → object_faults within o ≡ [] → within ≡ []
object_none within None e = cc
object_none within (Some ms) e = e

-- a type that is known, and what its rest says
pub typed_none : {K : Type 0} (rest : K → List Pair) (P : Result K FaultKind → Type 0) → ((k : K) → rest k ≡ [] → P (Ok k)) → (r : Result K FaultKind) → typed_faults rest r ≡ [] → P r
typed_none rest P found (Err k) e = cc
typed_none rest P found (Ok k) e = found k e

-- a text that is a value
pub text_none : (of : Data → List Pair) (P : Option Data → Type 0) → ((d : Data) → of d ≡ [] → P (Some d)) → (o : Option Data) → text_faults of o ≡ [] → P o
text_none of P found None e = cc
text_none of P found (Some d) e = found d e
