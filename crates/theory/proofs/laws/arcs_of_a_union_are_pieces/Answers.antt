use Rattle.theory.proofs.ProvedLaws.{arcs_of_a_union_are_pieces}
use Rattle.theory.proofs.laws.arcs_of_a_union_are_pieces.Goals as goal

pub returns : goal.returns
returns c d = arcs_of_a_union_are_pieces
