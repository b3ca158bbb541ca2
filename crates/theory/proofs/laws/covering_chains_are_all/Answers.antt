use Rattle.theory.proofs.ProvedLaws.{covering_chains_are_all}
use Rattle.theory.proofs.laws.covering_chains_are_all.Goals as goal

pub returns : goal.returns
returns c d = covering_chains_are_all
