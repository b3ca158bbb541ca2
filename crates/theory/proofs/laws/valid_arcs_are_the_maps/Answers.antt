use Rattle.theory.proofs.ValidityProved.{valid_arcs_are_the_maps}
use Rattle.theory.proofs.laws.valid_arcs_are_the_maps.Goals as goal

pub returns : goal.returns
returns c d = valid_arcs_are_the_maps
