use Rattle.decimals.proofs.TopologyLemmas.Areas.{areas_add_up}
use Rattle.decimals.proofs.topology.laws.areas_add_up.Goals as goal

pub returns : goal.returns
returns c = areas_add_up
