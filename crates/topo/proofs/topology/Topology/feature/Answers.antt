use Rattle.std.proofs.Common.{subst, sym}
use Rattle.topo.specs.Features.{IsFeatureOf}
use Rattle.topo.proofs.topology.Topology.feature.Goals as goal

pub feature-requires : goal.feature-requires
feature-requires c =
    (c.requires.0, subst (λ t. IsFeatureOf t.arcs c.requires.0 c.args.geometry.now) (sym c.arcs.ensures.arcs) c.requires.1)
