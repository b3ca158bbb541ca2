use Rattle.std.proofs.Common.{sym, subst}
use Rattle.topo.proofs.LayerLawsLemmas.ItsMap.{its_map_is}
use Rattle.refine.specs.OnGrid.{IsKeptFor}
use Rattle.refine.proofs.cut.Cut.of_topology.Goals as goal

pub invariant_of-result : goal.invariant_of-result
invariant_of-result c = ((c.requires.of_map.0, ∣ c.requires.of_map.1 ∣₁), tt)

pub invariant_of-result-2 : goal.invariant_of-result-2
invariant_of-result-2 c =
    let t = c.args.topology in
    let (m, h) = c.requires.of_map in
    subst (λ n. IsKeptFor n t) (sym (its_map_is t c.result-1.given.0 m h)) (record { of_map = h; few = c.requires.few })

pub returns-clause-map : goal.returns-clause-map
returns-clause-map c = λ m h. its_map_is c.args.topology c.result-1.given.0 m h
