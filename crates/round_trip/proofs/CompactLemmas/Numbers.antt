-- Whole numbers of 64 bits that are written are read.
use Rattle.std.proofs.Common.{◌≡◌, ℤ, pos, negsuc, ◌≤ℤ◌, List, [], Some, refl, arith, lt-ltb}
use Rattle.std.proofs.lemmas.Int.{ints}
use Rattle.serde_json.specs.Find.{as_i64, of_integer}
use Rattle.faults.specs.Fault.{Pair}
use Rattle.reading.specs.Numbers.{element_faults, whole_of}
use Rattle.shapes.specs.Ids.{IsI64}
use Rattle.round_trip.specs.Compact.Values.{integer}
use Rattle.round_trip.proofs.CompactLemmas.GoodParts.{Fits}

pub Fits-IsI64 : (z : ℤ) → IsI64 z → Fits z
Fits-IsI64 (pos n) h = omega arith
Fits-IsI64 (negsuc n) h = h

pub IsI64-between : (z : ℤ) → negsuc 9223372036854775807 ≤ℤ z → z ≤ℤ pos 9223372036854775807 → IsI64 z
IsI64-between (pos n) l h = omega (arith, ints)
IsI64-between (negsuc n) l h = omega (arith, ints)

pub as_i64-of_integer : (z : ℤ) → IsI64 z → as_i64 (of_integer z) ≡ Some z
as_i64-of_integer (pos n) h = rw (lt-ltb _ _ h)
as_i64-of_integer (negsuc n) h = refl

pub whole_of-integer : (z : ℤ) → IsI64 z → whole_of (integer z) ≡ z
whole_of-integer z h = rw (as_i64-of_integer z h)

pub element_faultless : (more : ℤ → List Pair) (z : ℤ) → IsI64 z → more z ≡ [] → element_faults more (integer z) ≡ []
element_faultless more z h e = rw (as_i64-of_integer z h) e
