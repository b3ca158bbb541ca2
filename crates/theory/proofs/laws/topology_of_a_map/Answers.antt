use Rattle.theory.proofs.ProvedLaws.{topology_of_a_map}
use Rattle.theory.proofs.laws.topology_of_a_map.Goals as goal

pub returns : goal.returns
returns c d = topology_of_a_map
