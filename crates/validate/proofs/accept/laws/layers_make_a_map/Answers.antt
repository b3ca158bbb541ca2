use Rattle.validate.proofs.AcceptLemmas.StitchedMaps.{layers_make_a_map}
use Rattle.validate.proofs.accept.laws.layers_make_a_map.Goals as goal

pub returns : goal.returns
returns c = layers_make_a_map
