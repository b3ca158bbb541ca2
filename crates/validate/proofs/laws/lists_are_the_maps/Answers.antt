use Rattle.validate.proofs.Together.{lists_are_the_maps}
use Rattle.validate.proofs.laws.lists_are_the_maps.Goals as goal

pub returns : goal.returns
returns c = lists_are_the_maps
