use Rattle.std.proofs.Common.{◌≡◌, ◌++◌, drop, map}
use Rattle.lines.specs.PositionFilter.{may_hold}
use Rattle.chains.specs.ManyTables.{piece_meets}
use Rattle.chains.proofs.repeats.Repeats.marks.Given as goal

abbrev pub invariant-loop-piece : goal.invariant-loop-piece
invariant-loop-piece l = l.marks.items ++ map (piece_meets (may_hold l.fn.self.again)) (drop l.piece-index l.fn.pieces) ≡ map (piece_meets (may_hold l.fn.self.again)) l.fn.pieces
