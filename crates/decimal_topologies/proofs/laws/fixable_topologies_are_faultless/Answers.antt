use Rattle.decimal_topologies.proofs.SoundTopologies.{topology_is_sound}
use Rattle.decimal_topologies.proofs.laws.fixable_topologies_are_faultless.Goals as goal

pub returns : goal.returns
returns c = topology_is_sound
