-- Properties that were judged.
use Rattle.std.proofs.Common.{◌≡◌, Bool, true, false, not, nat_le, List, [], ◌∷◌, ◌++◌, Option, Some, None, is_some, if◌then◌else◌, refl, sym, ap, subst, arith}
use Rattle.serde_json.specs.Data.{Data, null, boolean, number, string, array, object, depth}
use Rattle.serde_json.specs.Find.{as_null}
use Rattle.serde_json.specs.Written.{has_float}
use Rattle.faults.specs.Fault.{Pair, pair_of}
use Rattle.faults.specs.declared.fault.Fault.{Fault}
use Rattle.faults.specs.declared.fault.FaultKind.TheVariants as kind
use Rattle.shapes.specs.declared.nesting.TheConstants.{GREATEST_PROPERTY_DEPTH}
use Rattle.shapes.specs.PropertyFaults.{property_fault}
use Rattle.shapes.specs.declared.props.PropFault.{PropFault}
use Rattle.shapes.specs.declared.props.PropFault.TheVariants.{WrongKind, PropertyNumber, PropertyDepth, OutOfMemory}
use Rattle.std.proofs.lemmas.List.Elements.{All-cons, All-nil}
use Rattle.reading.specs.Fault.{here, IsUpto, IsLeast, LeastOrWant}
use Rattle.reading.specs.Info.{properties_faults, properties_kind}
use Rattle.reading.proofs.Least.{least_here, from_want}

abbrev object_fault : Bool → Bool → Option PropFault
object_fault fraction deep = if fraction then Some PropertyNumber else (if deep then Some PropertyDepth else None)

abbrev object_list : Bool → Bool → List Pair
object_list fraction deep = (if fraction then here kind.PropertyNumber else []) ++ (if deep then here kind.PropertyDepth else [])

abbrev if_as : PropFault → Pair
if_as f = record { path = []; kind = properties_kind f }

number_first : IsLeast (object_list true true) (if_as PropertyNumber)
number_first = record {
  present = (0, omega arith, refl);
  first = All-cons (IsUpto (if_as PropertyNumber)) (if_as PropertyNumber) (if_as PropertyDepth ∷ []) refl (All-cons (IsUpto (if_as PropertyNumber)) (if_as PropertyDepth) [] refl (All-nil (IsUpto (if_as PropertyNumber))));
}

object_least : (fraction deep : Bool) (f : PropFault) → object_fault fraction deep ≡ Some f → IsLeast (object_list fraction deep) (if_as f)
object_least true true PropertyNumber e = number_first
object_least true false PropertyNumber e = least_here kind.PropertyNumber
object_least false true PropertyDepth e = least_here kind.PropertyDepth
object_least fraction deep f e = cc

fault_least : (d : Data) (f : PropFault) → is_some (as_null d) ≡ false → property_fault d ≡ Some f → IsLeast (properties_faults d) (if_as f)
fault_least null f there e = cc
fault_least (boolean b) WrongKind there e = least_here kind.WrongKind
fault_least (number n) WrongKind there e = least_here kind.WrongKind
fault_least (string s) WrongKind there e = least_here kind.WrongKind
fault_least (array ds) WrongKind there e = least_here kind.WrongKind
fault_least (object ms) f there e = object_least (has_float (object ms)) (not (nat_le (depth (object ms)) GREATEST_PROPERTY_DEPTH)) f e
fault_least d f there e = cc

least_of : (d : Data) (f : PropFault) (told : Fault) → is_some (as_null d) ≡ false → property_fault d ≡ Some f → pair_of told ≡ if_as f → LeastOrWant (properties_faults d) told
least_of d f told there e is = record { least = λ real. subst (IsLeast (properties_faults d)) (sym is) (fault_least d f there e) }

pub properties_refused : (d : Data) (f : PropFault) (told : Fault) → is_some (as_null d) ≡ false → ((f ≡ OutOfMemory → ⊥) → property_fault d ≡ Some f) → pair_of told ≡ if_as f → LeastOrWant (properties_faults d) told
properties_refused d WrongKind told there e is = least_of d WrongKind told there (e (λ k. cc)) is
properties_refused d PropertyNumber told there e is = least_of d PropertyNumber told there (e (λ k. cc)) is
properties_refused d PropertyDepth told there e is = least_of d PropertyDepth told there (e (λ k. cc)) is
properties_refused d OutOfMemory told there e is = from_want (properties_faults d) told (ap (λ p. p.kind) is)
