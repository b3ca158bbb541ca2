use Rattle.std.proofs.Common.{◌≡◌, ◌++◌, map}
use Rattle.arcs.specs.Placing.{own_piece}
use Rattle.arcs.proofs.stored.ArcList.into_pieces.Given as goal

abbrev pub invariant-loop-arc : goal.invariant-loop-arc
invariant-loop-arc l = l.pieces.items ++ map own_piece l.arc-iterator ≡ map own_piece l.fn.self
