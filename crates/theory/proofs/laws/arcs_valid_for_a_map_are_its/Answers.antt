use Rattle.theory.proofs.ValidityProved.{arcs_valid_for_a_map_are_its}
use Rattle.theory.proofs.laws.arcs_valid_for_a_map_are_its.Goals as goal

pub returns : goal.returns
returns c d = arcs_valid_for_a_map_are_its
