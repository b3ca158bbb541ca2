use Rattle.decimals.proofs.TopologyLemmas.Areas.{rewound_rings_turn_right}
use Rattle.decimals.proofs.topology.laws.rewound_rings_turn_right.Goals as goal

pub returns : goal.returns
returns c = rewound_rings_turn_right
