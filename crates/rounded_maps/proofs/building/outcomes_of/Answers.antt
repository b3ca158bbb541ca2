use Rattle.std.proofs.lemmas.List.{drop_all}
use Rattle.rounded_maps.specs.Outcomes.{AreOutcomes}
use Rattle.rounded_maps.proofs.Ends.{at_end}
use Rattle.rounded_maps.proofs.building.outcomes_of.Goals as goal

pub returns : goal.returns
returns c =
    at_end AreOutcomes (AreOutcomes c.args.maps.now) c.loop-map.outcomes.items _ (drop_all c.loop-map.map-index c.args.maps.now c.loop-map-test.false) tt c.loop-map.invariant
