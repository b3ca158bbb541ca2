use Rattle.decimals.proofs.TopologyLemmas.Properties.{properties_stay}
use Rattle.decimals.proofs.topology.laws.properties_stay.Goals as goal

pub returns : goal.returns
returns c = properties_stay
