use Rattle.std.proofs.Common.{◌≡◌, map, take}
use Rattle.decimals.specs.Topology.Turning.{rewound_rings}
use Rattle.decimals.proofs.topology.turning.Turning.polygons.Given as goal

abbrev pub invariant-loop-rings : goal.invariant-loop-rings
invariant-loop-rings l = l.made.items ≡ map (rewound_rings l.self.areas.items l.self.rules.rewind) (take l.rings-index l.polygons)
