use Rattle.std.proofs.Common.{subst}
use Rattle.std.specs.Result.{IfErr, IfOk}
use Rattle.topo_io.specs.Means.{MeansTopology}
use Rattle.c_calls.specs.Why.{IsTextRefusal}
use Rattle.noshinka.proofs.way_back.topology_behind.Goals as goal

pub returns-clause-means : goal.returns-clause-means
returns-clause-means c = subst (λ t. IfOk c.topology_of.result (MeansTopology t)) c.in_ok-text.ensures c.topology_of.ensures.means

pub returns-clause-refused : goal.returns-clause-refused
returns-clause-refused c = subst (λ t. IfErr c.topology_of.result (IsTextRefusal 0 t)) c.in_ok-text.ensures c.topology_of.ensures.refused
