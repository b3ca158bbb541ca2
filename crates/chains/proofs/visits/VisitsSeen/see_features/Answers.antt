use Rattle.std.proofs.Common.{arith, ◌≡◌, ◌++◌, ap}
use Rattle.std.proofs.lemmas.Grind.{common_steps}
use Rattle.theory.specs.Lists.{gathered}
use Rattle.theory.specs.Topology.{lines_in, rings_in}
use Rattle.shapes.specs.Maps.{set_of}
use Rattle.shapes.specs.Sets as set
use Rattle.shapes.specs.OrderLaws.{feature_cmp_total}
use Rattle.shapes.specs.SetLaws.{items-from_list}
use Rattle.chains.specs.Index.{feature_ends, feature_visits}
use Rattle.chains.specs.Seen.{form_of}
use Rattle.chains.specs.Visits.{around_of, inner_of}
use Rattle.chains.specs.Noted.{visits_recorded}
use Rattle.chains.proofs.Same.{same_equal, same_step, same_twice}
use Rattle.chains.proofs.visits.VisitsSeen.see_features.Goals as goal

pub loop-feature-init : goal.loop-feature-init
loop-feature-init c =
    let first : c.into_iter-feature-iterator.result ≡ set.items (set_of c.args.features.now) = grind (arith, common_steps, items-from_list feature_cmp_total c.args.features.now.keys c.iter-feature-items.ensures.ordered) in
    record {
      ends = ap (λ fs. c.args.self.now.ends.items ++ gathered feature_ends fs) first;
      visits = same_equal (ap (λ fs. visits_recorded c.args.self.now ++ gathered feature_visits fs) first);
    }

pub loop-feature-preserved : goal.loop-feature-preserved
loop-feature-preserved c =
    let f = form_of c.in-Some.feature.now.shape in
    record {
      ends = grind (arith, common_steps);
      visits =
          same_step _ (same_twice (visits_recorded c.loop-feature.self) (gathered inner_of (lines_in f)) (gathered around_of (rings_in f)) c.in_ok-see_lines.ensures.visits c.in_ok-see_rings.ensures.visits)
          c.loop-feature.invariant.visits (grind (arith, common_steps));
    }
