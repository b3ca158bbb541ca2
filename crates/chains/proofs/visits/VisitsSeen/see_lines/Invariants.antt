use Rattle.std.proofs.Common.{◌≡◌, ◌++◌, map}
use Rattle.theory.specs.Lists.{gathered}
use Rattle.theory.specs.Topology.{lines_in}
use Rattle.chains.specs.Seen.{form_of, line_of}
use Rattle.chains.specs.Visits.{HaveSame, inner_of, ends_of}
use Rattle.chains.specs.Noted.{visits_recorded}
use Rattle.chains.proofs.visits.VisitsSeen.see_lines.Given as goal

abbrev pub invariant-loop-line : goal.invariant-loop-line
invariant-loop-line l = record {
  ends : l.self.ends.items ++ gathered ends_of (map line_of l.line-iterator) ≡ l.fn.self.ends.items ++ gathered ends_of (lines_in (form_of l.fn.shape));
  visits : HaveSame (visits_recorded l.self ++ gathered inner_of (map line_of l.line-iterator)) (visits_recorded l.fn.self ++ gathered inner_of (lines_in (form_of l.fn.shape)));
}
