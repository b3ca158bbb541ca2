use Rattle.std.proofs.Common.{◌≡◌, ◌+ℤ◌, drop}
use Rattle.decimals.specs.Topology.Turning.{ring_area}
use Rattle.decimals.proofs.topology.turning.Turning.of_ring.Given as goal

abbrev pub invariant-loop-used : goal.invariant-loop-used
invariant-loop-used l = l.sum +ℤ ring_area l.self.areas.items (drop l.used-index l.ring) ≡ ring_area l.self.areas.items l.ring
