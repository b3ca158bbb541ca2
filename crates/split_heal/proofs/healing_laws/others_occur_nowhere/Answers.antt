use Rattle.split_heal.proofs.ProvedHealingLaws.{others_occur_nowhere}
use Rattle.split_heal.proofs.healing_laws.others_occur_nowhere.Goals as goal

pub returns : goal.returns
returns c = others_occur_nowhere
