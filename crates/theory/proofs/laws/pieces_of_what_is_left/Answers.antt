use Rattle.theory.proofs.ProvedLaws.{pieces_of_what_is_left}
use Rattle.theory.proofs.laws.pieces_of_what_is_left.Goals as goal

pub returns : goal.returns
returns c d = pieces_of_what_is_left
