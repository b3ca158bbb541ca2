use Rattle.std.proofs.Common.{◌≡◌, length, map}
use Rattle.topo.specs.Features.{IsKnownOf}
use Rattle.topo.specs.LayerLaws.Leaving.{from_on, order_to}
use Rattle.refine.proofs.remove.is_next.Given as goal

abbrev pub invariant-loop-other : goal.invariant-loop-other
invariant-loop-other l = record {
  known : IsKnownOf l.fn.topology.arcs.arcs l.fn.geometry l.known;
  rest : from_on (order_to l.fn.topology.arcs.arcs) l.fn.geometry (map (λ f. f.now) l.features.items)
      ≡ from_on (order_to l.fn.topology.arcs.arcs) l.fn.geometry (map (λ f. f.now) l.fn.features.items);
}

abbrev pub decreases-loop-other : goal.decreases-loop-other
decreases-loop-other l = length l.features.items
