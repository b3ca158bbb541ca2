use Rattle.topo.proofs.LayerLawsLemmas.EqualLists.{equal_features_equal_lists}
use Rattle.topo.proofs.layer_laws.laws.equal_features_equal_lists.Goals as goal

pub returns : goal.returns
returns c = equal_features_equal_lists
