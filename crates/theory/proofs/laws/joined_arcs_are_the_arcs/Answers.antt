use Rattle.theory.proofs.HealingProved.{joined_arcs_are_the_arcs}
use Rattle.theory.proofs.laws.joined_arcs_are_the_arcs.Goals as goal

pub returns : goal.returns
returns c d = joined_arcs_are_the_arcs
