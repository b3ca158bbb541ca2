use Rattle.std.proofs.Common.{◌≡◌, ◌∷◌, ◌∙◌, ap, subst, sym}
use Rattle.faults.specs.Fault.{pair_of}
use Rattle.json.specs.Value.{value_view}
use Rattle.reading.specs.Fault.{IsLeast}
use Rattle.reading.specs.FaultLists.Ascending.{IsAscending}
use Rattle.reading.specs.FaultLists.Found.{pairs_of}
use Rattle.reading.proofs.FaultListsLemmas.Ascending.{first_least}
use Rattle.decimal_topologies.specs.Roots.{topology_faults}
use Rattle.rounded_maps.specs.Topologies.{topology_rules}
use Rattle.rounded_maps.proofs.content.refuse_topology.Goals as goal

pub returns-in-Some : goal.returns-in-Some
returns-in-Some c =
    let rest = c.next.new.self.rest.items in
    let split : c.in-Ok.faults.items ≡ c.in-Some.fault ∷ rest = sym c.into_iter.ensures.rest ∙ c.in-Some.ensures.cases.0 in
    let rules = c.args.rules.now in
    let read = sym (ap pairs_of split) ∙ c.in-Ok.ensures.all in
    let are : pair_of c.in-Some.fault ∷ pairs_of rest ≡ topology_faults (topology_rules rules) rules.fixing (value_view c.args.value.now) = read ∙ ap (λ r. topology_faults r rules.fixing (value_view c.args.value.now)) c.topology-topology.ensures in
    let sorted : IsAscending (pair_of c.in-Some.fault ∷ pairs_of rest) = subst (λ fs. IsAscending (pairs_of fs)) split c.in-Ok.ensures.sorted in
    record { least = λ _. subst (λ ps. IsLeast ps (pair_of c.in-Some.fault)) are (first_least (pair_of c.in-Some.fault) (pairs_of rest) sorted) }
