use Rattle.theory.proofs.ValidityProved.{topology_valid_for_a_map_is_its}
use Rattle.theory.proofs.laws.topology_valid_for_a_map_is_its.Goals as goal

pub returns : goal.returns
returns c d = topology_valid_for_a_map_is_its
