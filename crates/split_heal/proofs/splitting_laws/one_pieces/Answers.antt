use Rattle.split_heal.proofs.ProvedSplittingLaws.{one_pieces}
use Rattle.split_heal.proofs.splitting_laws.one_pieces.Goals as goal

pub returns : goal.returns
returns c = one_pieces
