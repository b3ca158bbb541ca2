use Rattle.std.proofs.Common.{◌≡◌, ◌++◌, map}
use Rattle.arcs.specs.Stored.{stored_of, merged_behind, merged}
use Rattle.arcs.proofs.merging.merged_arcs.Given as goal

abbrev pub invariant-loop-piece : goal.invariant-loop-piece
invariant-loop-piece l = l.arcs ++ merged_behind l.last (map stored_of l.piece-iterator.rest.items) ≡ merged (map stored_of l.fn.pieces.items)
