use Rattle.topo_io.proofs.Once.{means_once}
use Rattle.topo_io.proofs.laws.one_meaning.Goals as goal

pub returns : goal.returns
returns c = means_once
