use Rattle.std.proofs.Common.{◌≡◌, ◌++◌, false, map, take}
use Rattle.decimals.specs.Topology.Turning.{rewound_ring}
use Rattle.decimals.proofs.topology.turning.Turning.add_holes.Given as goal

abbrev pub invariant-loop-hole : goal.invariant-loop-hole
invariant-loop-hole l = l.rings.items ≡ l.initial.rings.items ++ map (rewound_ring l.self.areas.items l.self.rules.rewind false) (take l.hole-index l.holes)
