use Rattle.std.proofs.Common.{◌≡◌, ◌++◌, drop}
use Rattle.theory.specs.Lists.{gathered}
use Rattle.chains.specs.ManyTables.{all_marked_visits, piece_ends}
use Rattle.chains.specs.Visits.{HaveSame}
use Rattle.chains.specs.Noted.{visits_recorded}
use Rattle.chains.proofs.visits.VisitsSeen.see_pieces.Given as goal

abbrev pub invariant-loop-piece : goal.invariant-loop-piece
invariant-loop-piece l = record {
  ends : l.self.ends.items ++ gathered piece_ends (drop l.piece-index l.fn.pieces) ≡ l.fn.self.ends.items ++ gathered piece_ends l.fn.pieces;
  visits :
      HaveSame (visits_recorded l.self ++ all_marked_visits l.left (drop l.piece-index l.fn.pieces))
      (visits_recorded l.fn.self ++ all_marked_visits l.fn.marks l.fn.pieces);
}
