use Rattle.rounded_maps.proofs.Same.{same_equal}
use Rattle.rounded_maps.proofs.building.add_feature.Goals as goal

pub returns : goal.returns
returns c = same_equal _ _ c.in_ok-add_each.ensures
