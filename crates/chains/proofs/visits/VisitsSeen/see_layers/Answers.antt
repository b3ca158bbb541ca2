use Rattle.std.proofs.Common.{arith, ◌++◌, ◌∙◌, ap, map as map_list}
use Rattle.std.proofs.lemmas.Grind.{common_steps}
use Rattle.shapes.specs.Maps.{layer_entry}
use Rattle.chains.specs.Index.{form_ends, form_visits}
use Rattle.chains.specs.Noted.{visits_recorded}
use Rattle.chains.proofs.Layers.{of_layers}
use Rattle.chains.proofs.Same.{same_equal, same_step}
use Rattle.chains.proofs.visits.VisitsSeen.see_layers.Goals as goal

pub loop-layer-init : goal.loop-layer-init
loop-layer-init c =
    let ls = c.into_iter-layer-iterator.result in
    let first = ap (map_list layer_entry) c.into_iter-layer-iterator.ensures.into_iter_gives ∙ c.layers-layer-items.ensures in
    record {
      ends = ap (λ w. c.args.self.now.ends.items ++ w) (of_layers form_ends c.args.map.now ls first);
      visits = same_equal (ap (λ w. visits_recorded c.args.self.now ++ w) (of_layers form_visits c.args.map.now ls first));
    }

pub loop-layer-preserved : goal.loop-layer-preserved
loop-layer-preserved c = record {
  ends = grind (arith, common_steps);
  visits = same_step _ c.in_ok-see_features.ensures.visits c.loop-layer.invariant.visits (grind (arith, common_steps));
}
