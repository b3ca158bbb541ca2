use Rattle.theory.proofs.ProvedLaws.{pieces_cover}
use Rattle.theory.proofs.laws.pieces_cover.Goals as goal

pub returns : goal.returns
returns c d = pieces_cover
