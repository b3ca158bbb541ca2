use Rattle.theory.proofs.ProvedLaws.{pieces_are_the_arcs}
use Rattle.theory.proofs.laws.pieces_are_the_arcs.Goals as goal

pub returns : goal.returns
returns c d = pieces_are_the_arcs
