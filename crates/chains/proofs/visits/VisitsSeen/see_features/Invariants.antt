use Rattle.std.proofs.Common.{◌≡◌, ◌++◌}
use Rattle.theory.specs.Lists.{gathered}
use Rattle.shapes.specs.Maps.{set_of}
use Rattle.shapes.specs.Sets as set
use Rattle.chains.specs.Index.{feature_ends, feature_visits}
use Rattle.chains.specs.Visits.{HaveSame}
use Rattle.chains.specs.Noted.{visits_recorded}
use Rattle.chains.proofs.visits.VisitsSeen.see_features.Given as goal

abbrev pub invariant-loop-feature : goal.invariant-loop-feature
invariant-loop-feature l = record {
  ends : l.self.ends.items ++ gathered feature_ends l.feature-iterator ≡ l.fn.self.ends.items ++ gathered feature_ends (set.items (set_of l.fn.features));
  visits : HaveSame (visits_recorded l.self ++ gathered feature_visits l.feature-iterator) (visits_recorded l.fn.self ++ gathered feature_visits (set.items (set_of l.fn.features)));
}
