-- Lines and rings that the rules refuse.
use Rattle.std.proofs.Common.{◌≡◌, ◌≢◌, refl, sym, ap, ◌∙◌, subst, Option, Some, None, Result, Ok, Err, IfErr}
use Rattle.lines.specs.declared.shape_fault.ShapeFault.{ShapeFault}
use Rattle.lines.specs.declared.shape_fault.ShapeFault.TheVariants as fault
use Rattle.fixing.specs.Left.{need_of}
use Rattle.fixing.specs.declared.broken.Broken.{Broken}
use Rattle.fixing.specs.declared.broken.Broken.TheVariants as broken
use Rattle.fixing.specs.declared.linework.Fix.{Fix}
use Rattle.fixing.specs.declared.rules.FixingRules.{FixingRules}

-- an error that is no want of memory says that the rules refuse the list
abbrev pub Refuses : FixingRules → Option ShapeFault → Result Fix Broken → Type 0
Refuses rules given r = IfErr r (λ e. e ≡ broken.Refused → need_of rules given ≡ None)

-- what refuses the fault refuses the list, unless there was no memory
refused : (rules : FixingRules) (given : Option ShapeFault) (f : ShapeFault) (e : Broken) → (f ≢ fault.OutOfMemory → given ≡ Some f) →
    (f ≡ fault.OutOfMemory → e ≡ broken.OutOfMemory) → (e ≡ broken.Refused → need_of rules (Some f) ≡ None) → e ≡ broken.Refused → need_of rules given ≡ None
refused rules given fault.TooShort e is memory refuses k = ap (need_of rules) (is (λ q. cc)) ∙ refuses k
refused rules given fault.NotClosed e is memory refuses k = ap (need_of rules) (is (λ q. cc)) ∙ refuses k
refused rules given fault.Revisit e is memory refuses k = ap (need_of rules) (is (λ q. cc)) ∙ refuses k
refused rules given fault.OutOfMemory e is memory refuses k = absurd (let m = memory refl in cc)

pub refused_with : (rules : FixingRules) (given : Option ShapeFault) (f : ShapeFault) (r s : Result Fix Broken) → r ≡ s → (f ≢ fault.OutOfMemory → given ≡ Some f) →
    IfErr s (λ e. f ≡ fault.OutOfMemory → e ≡ broken.OutOfMemory) → Refuses rules (Some f) s → Refuses rules given r
refused_with rules given f r s e is memory refuses = subst (Refuses rules given) (sym e) (go s memory refuses)
  where
    go : (s : Result Fix Broken) → IfErr s (λ e. f ≡ fault.OutOfMemory → e ≡ broken.OutOfMemory) → Refuses rules (Some f) s → Refuses rules given s
    go (Ok need) m h = tt
    go (Err e) m h = refused rules given f e is m h

-- what is not refused
pub not_refused : (rules : FixingRules) (given : Option ShapeFault) (r : Result Fix Broken) (need : Fix) → r ≡ Ok need → Refuses rules given r
not_refused rules given r need e = subst (Refuses rules given) (sym e) tt
