use Rattle.theory.proofs.ProvedLaws.{one_list_of_chains}
use Rattle.theory.proofs.laws.one_list_of_chains.Goals as goal

pub returns : goal.returns
returns c d = one_list_of_chains
