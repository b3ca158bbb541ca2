use Rattle.std.proofs.Common.{◌⊎◌, drop, map}
use Rattle.std.specs.BTreeMap.{btree_map_len}
use Rattle.chains.specs.Joined.{IsJoining, MeetsTwo, StopAt, AmongSegments, Covered}
use Rattle.grid.specs.declared.pos.Pos.{Pos}
use Rattle.chains.proofs.joining.chains_of.Given as goal

abbrev pub invariant-loop-segment : goal.invariant-loop-segment
invariant-loop-segment l = MeetsTwo l.segments l.stops → record {
  joining : IsJoining l.segments l.stops l.links (map (λ c. c.items) l.found.items);
  rest : (u v : Pos) → StopAt l.stops u → AmongSegments u v l.segments →
      Covered u v (map (λ c. c.items) l.found.items) ⊎ AmongSegments u v (drop l.segment-index l.segments);
}

abbrev pub invariant-loop-seam : goal.invariant-loop-seam
invariant-loop-seam l = MeetsTwo l.segments l.stops → record {
  joining : IsJoining l.segments l.stops l.links (map (λ c. c.items) l.found.items);
  stops : (u v : Pos) → StopAt l.stops u → AmongSegments u v l.segments → Covered u v (map (λ c. c.items) l.found.items);
}

abbrev pub decreases-loop-seam : goal.decreases-loop-seam
decreases-loop-seam l = btree_map_len l.links
