use Rattle.std.proofs.Common.{refl}
use Rattle.topo.proofs.Pairs.{pair_at}
use Rattle.topo.specs.Features.{IsFeatureOf}
use Rattle.query.proofs.Holding.{layer_step, layer_done}
use Rattle.query.proofs.members.add_layer.Goals as goal

pub feature-requires : goal.feature-requires
feature-requires c =
    let (f, _, r) = pair_at (IsFeatureOf c.args.topology.now.arcs.arcs) c.requires.0 c.args.geometries.now c.loop-geometry.geometry-index c.geometry-item.result
    c.requires.1 c.loop-geometry-test.true c.geometry-item.is in (f, r)

pub loop-geometry-preserved : goal.loop-geometry-preserved
loop-geometry-preserved c = λ fs h.
    layer_step c.args.topology.now.arcs.arcs fs c.args.geometries.now c.loop-geometry.members.items _ c.loop-geometry.geometry-index c.geometry-item.result _ _
    h c.loop-geometry-test.true c.geometry-item.is c.in_ok-feature.ensures refl c.in_ok-push.ensures.items (c.loop-geometry.invariant fs h)

pub returns : goal.returns
returns c = λ fs h.
    layer_done c.args.topology.now.arcs.arcs fs c.args.geometries.now c.loop-geometry.members.items c.loop-geometry.geometry-index _ h c.loop-geometry-test.false
    (c.loop-geometry.invariant fs h)
