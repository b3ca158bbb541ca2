use Rattle.std.proofs.Common.{ℕ, ap, length, subst, sym}
use Rattle.fault_reports.specs.FaultPlaces.{AreUpTo}
use Rattle.fault_reports.proofs.FaultPlacesLemmas.{up_to_kept, up_to_start}
use Rattle.fault_reports.proofs.places.places.Goals as goal

pub returns-clause-within : goal.returns-clause-within
returns-clause-within c =
    let n : ℕ = length c.args.text.now in
    let start : AreUpTo n c.resize.new.self.items = up_to_start n _ _ c.new-places.result.items c.resize.new.self.items c.new-places.ensures.items c.in_ok-resize.ensures.items in
    let now : AreUpTo n c.place_value.new.places = subst (λ k. AreUpTo k c.place_value.new.places) (ap length c.as_bytes.ensures.value)
    (c.place_value.ensures.within (subst (λ k. AreUpTo k c.as_mut_slice.result.now) (sym (ap length c.as_bytes.ensures.value)) (subst (AreUpTo n) (sym c.as_mut_slice.ensures.value) start))) in
    up_to_kept n _ c.resize.new.self.items c.place_value.new.places start now
