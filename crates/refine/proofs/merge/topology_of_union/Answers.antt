use Rattle.std.proofs.Common.{◌≡◌, ◌∙◌, MatchOption, ap, sym, subst}
use Rattle.topo.specs.OfMap.{seen_parts}
use Rattle.topo.proofs.TopologyLaws.{is_computed}
use Rattle.merging.specs.Merge.{IsUnionOf}
use Rattle.topo_io.specs.Canon.{canon}
use Rattle.topo_io.specs.TopologyText.{topology_text}
use Rattle.refine.proofs.merge.topology_of_union.Goals as goal

pub returns-in-Some-clause-merged : goal.returns-in-Some-clause-merged
returns-in-Some-clause-merged c = λ texts is n of_union.
    let s = c.in-Some.shard in
    let union = subst (λ o. MatchOption o (n ≡ 0) (λ s. IsUnionOf texts is s.grid s.map)) c.in-Some.is of_union in
    (s.map, subst (λ g. IsUnionOf texts is g s.map) (sym c.into_topology.ensures.grid) union, c.into_topology.ensures.of_map)

pub returns-in-Some-clause-text : goal.returns-in-Some-clause-text
returns-in-Some-clause-text c = λ texts is n of_union.
    let s = c.in-Some.shard in
    let union = subst (λ o. MatchOption o (n ≡ 0) (λ s. IsUnionOf texts is s.grid s.map)) c.in-Some.is of_union in
    let topology = c.into_topology.result in
    let of_map = c.into_topology.ensures.of_map in
    record {
      indexes = union.indexes;
      grid = s.grid;
      maps = union.maps;
      meant = union.meant;
      text = ap topology_text (is_computed topology.grid s.map (seen_parts topology) of_map.topology)
          ∙ (λ i. canon (c.into_topology.ensures.grid i) (union.union i));
    }
