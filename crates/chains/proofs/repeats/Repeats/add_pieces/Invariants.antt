use Rattle.std.proofs.Common.{◌++◌, drop, List}
use Rattle.theory.specs.Lists.{gathered}
use Rattle.grid.specs.declared.pos.Pos.{Pos}
use Rattle.chains.specs.ManyTables.{vertices_once}
use Rattle.chains.specs.Repeats.{AreMet}
use Rattle.chains.proofs.repeats.Repeats.add_pieces.Given as goal

abbrev pub invariant-loop-piece : goal.invariant-loop-piece
invariant-loop-piece l = (all later : List Pos) → AreMet l.fn.self all (gathered vertices_once l.fn.pieces ++ later) → AreMet l.self all (gathered vertices_once (drop l.piece-index l.fn.pieces) ++ later)
