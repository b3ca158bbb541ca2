use Rattle.theory.proofs.HealingProved.{new_lists_along_old_ones}
use Rattle.theory.proofs.laws.new_lists_along_old_ones.Goals as goal

pub returns : goal.returns
returns c d = new_lists_along_old_ones
