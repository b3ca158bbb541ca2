use Rattle.theory.proofs.ProvedLaws.{walks_end}
use Rattle.theory.proofs.laws.walks_end.Goals as goal

pub returns : goal.returns
returns c d = walks_end
