use Rattle.theory.proofs.ProvedLaws.{pieces_of_a_ring}
use Rattle.theory.proofs.laws.pieces_of_a_ring.Goals as goal

pub returns : goal.returns
returns c d = pieces_of_a_ring
