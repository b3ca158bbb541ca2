use Rattle.split_heal.proofs.ProvedSplittingLaws.{arcs_of_one_arc}
use Rattle.split_heal.proofs.splitting_laws.arcs_of_one_arc.Goals as goal

pub returns : goal.returns
returns c = arcs_of_one_arc
