use Rattle.split_heal.proofs.ProvedHealingLaws.{kept_arcs_occur_once}
use Rattle.split_heal.proofs.healing_laws.kept_arcs_occur_once.Goals as goal

pub returns : goal.returns
returns c = kept_arcs_occur_once
