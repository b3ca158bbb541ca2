use Rattle.theory.proofs.ProvedLaws.{users_of_an_arc}
use Rattle.theory.proofs.laws.users_of_an_arc.Goals as goal

pub returns : goal.returns
returns c d = users_of_an_arc
