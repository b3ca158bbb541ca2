use Rattle.topo_io.proofs.ValidTextsMeanAMap.{valid_texts_mean_a_map}
use Rattle.topo_io.proofs.laws.valid_texts_mean_a_map.Goals as goal

pub returns : goal.returns
returns c = valid_texts_mean_a_map
