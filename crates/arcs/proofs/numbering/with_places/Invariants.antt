use Rattle.std.proofs.Common.{◌≡◌, ◌++◌, length}
use Rattle.arcs.specs.Placing.{placed_from}
use Rattle.arcs.proofs.numbering.with_places.Given as goal

abbrev pub invariant-loop-piece : goal.invariant-loop-piece
invariant-loop-piece l = l.all.items ++ placed_from (length l.all.items) l.piece-iterator.rest.items ≡ placed_from 0 l.fn.pieces.items
