use Rattle.std.proofs.Common.{◌≡◌, ◌++◌, length}
use Rattle.chains.specs.Noted.{visits_recorded}
use Rattle.chains.specs.Visits.{HaveSame, inner_of}
use Rattle.chains.proofs.visits.VisitsSeen.see_inside.Given as goal

abbrev pub invariant-loop-window : goal.invariant-loop-window
invariant-loop-window l = record {
  visits : HaveSame (visits_recorded l.self ++ inner_of l.left) (visits_recorded l.fn.self ++ inner_of l.fn.line);
  ends : l.self.ends.items ≡ l.fn.self.ends.items;
}

abbrev pub decreases-loop-window : goal.decreases-loop-window
decreases-loop-window l = length l.left
