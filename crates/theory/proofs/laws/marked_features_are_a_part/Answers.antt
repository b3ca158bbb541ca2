use Rattle.theory.proofs.HealingProved.{marked_features_are_a_part}
use Rattle.theory.proofs.laws.marked_features_are_a_part.Goals as goal

pub returns : goal.returns
returns c d = marked_features_are_a_part
