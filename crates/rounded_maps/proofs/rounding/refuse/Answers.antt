use Rattle.std.proofs.Common.{◌≡◌, ◌∷◌, ◌∙◌, ap, subst, sym}
use Rattle.faults.specs.Fault.{pair_of}
use Rattle.reading.specs.Fault.{IsLeast}
use Rattle.reading.specs.FaultLists.Ascending.{IsAscending}
use Rattle.reading.specs.FaultLists.Found.{pairs_of}
use Rattle.reading.proofs.FaultListsLemmas.Ascending.{first_least}
use Rattle.rounded_maps.specs.Rounded.{text_faults}
use Rattle.rounded_maps.proofs.rounding.refuse.Goals as goal

pub returns-in-Some : goal.returns-in-Some
returns-in-Some c =
    let rest = c.next.new.self.rest.items in
    let split : c.in-Ok.faults.items ≡ c.in-Some.fault ∷ rest = sym c.into_iter.ensures.rest ∙ c.in-Some.ensures.cases.0 in
    let are : pair_of c.in-Some.fault ∷ pairs_of rest ≡ text_faults c.args.rules.now c.args.bytes.now = sym (ap pairs_of split) ∙ c.in-Ok.ensures.all in
    let sorted : IsAscending (pair_of c.in-Some.fault ∷ pairs_of rest) = subst (λ fs. IsAscending (pairs_of fs)) split c.in-Ok.ensures.sorted in
    record { least = λ _. subst (λ ps. IsLeast ps (pair_of c.in-Some.fault)) are (first_least (pair_of c.in-Some.fault) (pairs_of rest) sorted) }
