use Rattle.theory.proofs.ProvedLaws.{one_free_loop}
use Rattle.theory.proofs.laws.one_free_loop.Goals as goal

pub returns : goal.returns
returns c d = one_free_loop
