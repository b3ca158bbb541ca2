use Rattle.std.proofs.Common.{◌≡◌, sym, ap, ◌∙◌}
use Rattle.topo.specs.OfMap.{seen_parts}
use Rattle.topo.proofs.TopologyLaws.{is_computed}
use Rattle.topo_io.specs.TopologyText.{topology_text}
use Rattle.topo_io.specs.Canon.{canon}
use Rattle.topo_io.proofs.Once.{means_once}
use Rattle.topo_io.proofs.same.is_canonical.Goals as goal

pub returns-clause-canonical : goal.returns-clause-canonical
returns-clause-canonical c = λ g m means.
    let t = c.in_ok-topology.topology in
    let (n, meant, of_map) = c.in_ok-topology.ensures.means in
    let one = means_once c.args.bytes.now t.grid g n m meant means in
    let text : topology_text (seen_parts t) ≡ canon g m = ap topology_text (is_computed t.grid n (seen_parts t) of_map.topology) ∙ (λ i. canon (one.0 i) (one.1 i)) in
    (λ yes. c.is_text_of.ensures.0 yes ∙ text, λ is. c.is_text_of.ensures.1 (is ∙ sym text))
