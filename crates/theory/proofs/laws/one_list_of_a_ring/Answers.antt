use Rattle.theory.proofs.ProvedLaws.{one_list_of_a_ring}
use Rattle.theory.proofs.laws.one_list_of_a_ring.Goals as goal

pub returns : goal.returns
returns c d = one_list_of_a_ring
