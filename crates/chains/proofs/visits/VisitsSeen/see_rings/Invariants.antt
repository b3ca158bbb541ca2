use Rattle.std.proofs.Common.{◌≡◌, ◌++◌, map}
use Rattle.theory.specs.Lists.{gathered}
use Rattle.theory.specs.Topology.{rings_in}
use Rattle.chains.specs.Seen.{form_of, ring_of}
use Rattle.chains.specs.Visits.{HaveSame, around_of}
use Rattle.chains.specs.Noted.{visits_recorded}
use Rattle.chains.proofs.visits.VisitsSeen.see_rings.Given as goal

abbrev pub invariant-loop-ring : goal.invariant-loop-ring
invariant-loop-ring l = record {
  ends : l.self.ends.items ≡ l.fn.self.ends.items;
  visits : HaveSame (visits_recorded l.self ++ gathered around_of (map ring_of l.ring-iterator)) (visits_recorded l.fn.self ++ gathered around_of (rings_in (form_of l.fn.shape)));
}
