use Rattle.std.proofs.Common.{◌≡◌, ◌++◌}
use Rattle.theory.specs.Lists.{gathered}
use Rattle.theory.specs.Topology.{forms_of}
use Rattle.chains.specs.Index.{form_ends, form_visits, layer_ends, layer_visits}
use Rattle.chains.specs.Seen.{seen}
use Rattle.chains.specs.Visits.{HaveSame}
use Rattle.chains.specs.Noted.{visits_recorded}
use Rattle.chains.proofs.visits.VisitsSeen.see_layers.Given as goal

abbrev pub invariant-loop-layer : goal.invariant-loop-layer
invariant-loop-layer l = record {
  ends : l.self.ends.items ++ gathered layer_ends l.layer-iterator ≡ l.fn.self.ends.items ++ gathered form_ends (forms_of (seen l.fn.map));
  visits : HaveSame (visits_recorded l.self ++ gathered layer_visits l.layer-iterator) (visits_recorded l.fn.self ++ gathered form_visits (forms_of (seen l.fn.map)));
}
