use Rattle.split_heal.proofs.ProvedSplittingLaws.{no_other_arcs}
use Rattle.split_heal.proofs.splitting_laws.no_other_arcs.Goals as goal

pub returns : goal.returns
returns c = no_other_arcs
