-- Lines and rings that were refused.
use Rattle.std.proofs.Common.{◌≡◌, Option, Some, [], ap}
use Rattle.faults.specs.Fault.{pair_of}
use Rattle.faults.specs.declared.fault.Fault.{Fault}
use Rattle.faults.specs.declared.fault.FaultKind.TheVariants as kind
use Rattle.lines.specs.declared.shape_fault.ShapeFault.{ShapeFault}
use Rattle.lines.specs.declared.shape_fault.ShapeFault.TheVariants.{TooShort, NotClosed, Revisit, OutOfMemory}
use Rattle.reading.specs.Fault.{LeastOrWant}
use Rattle.reading.specs.Outlines.{outline_kind, outline_faults}
use Rattle.reading.proofs.Least.{only_of, from_want}

pub outline_refused : (o : Option ShapeFault) (f : ShapeFault) (told : Fault) → ((f ≡ OutOfMemory → ⊥) → o ≡ Some f) → pair_of told ≡ record { path = []; kind = outline_kind f } → LeastOrWant (outline_faults o) told
outline_refused o TooShort told is e = only_of kind.TooShort (outline_faults o) told e (ap outline_faults (is (λ no. cc)))
outline_refused o NotClosed told is e = only_of kind.NotClosed (outline_faults o) told e (ap outline_faults (is (λ no. cc)))
outline_refused o Revisit told is e = only_of kind.Revisit (outline_faults o) told e (ap outline_faults (is (λ no. cc)))
outline_refused o OutOfMemory told is e = from_want (outline_faults o) told (ap (λ p. p.kind) e)
