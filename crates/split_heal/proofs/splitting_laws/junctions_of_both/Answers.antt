use Rattle.split_heal.proofs.ProvedSplittingLaws.{junctions_of_both}
use Rattle.split_heal.proofs.splitting_laws.junctions_of_both.Goals as goal

pub returns : goal.returns
returns c = junctions_of_both
