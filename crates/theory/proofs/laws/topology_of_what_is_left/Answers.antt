use Rattle.theory.proofs.HealingProved.{topology_of_what_is_left}
use Rattle.theory.proofs.laws.topology_of_what_is_left.Goals as goal

pub returns : goal.returns
returns c d = topology_of_what_is_left
