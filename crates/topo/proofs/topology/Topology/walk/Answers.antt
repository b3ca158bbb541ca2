use Rattle.std.proofs.Common.{ap, ◌∙◌}
use Rattle.topo.specs.Walked.{walked}
use Rattle.topo.proofs.Walks.{walked_stitched}
use Rattle.topo.proofs.topology.Topology.walk.Goals as goal

pub returns-clause-stitched : goal.returns-clause-stitched
returns-clause-stitched c = λ l h. c.over.ensures ∙ ap (λ t. walked t.arcs.arcs c.args.refs.now) c.self.view_is ∙ walked_stitched _ _ l h
