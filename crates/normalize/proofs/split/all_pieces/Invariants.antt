use Rattle.normalize.specs.Pieces.{ArePieces}
use Rattle.normalize.proofs.Numbered.{MadeSoFar}
use Rattle.normalize.proofs.split.all_pieces.Given as goal

abbrev pub invariant-loop-number : goal.invariant-loop-number
invariant-loop-number l = MadeSoFar (ArePieces l.fn.table.arcs) l.fn.arcs l.pieces.items l.number
