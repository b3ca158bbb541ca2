use Rattle.topo.specs.Features.{IsFeatureOf}
use Rattle.topo.proofs.Pairs.{all_made, one_more, pair_at}
use Rattle.topo.proofs.topology.Topology.features.Goals as goal

pub feature-requires : goal.feature-requires
feature-requires c =
    let (f, _, r) =
    pair_at (IsFeatureOf c.args.self.now.arcs.arcs) c.requires.0 c.args.geometries.now c.loop-geometry.geometry-index c.geometry-item.result c.requires.1 c.loop-geometry-test.true c.geometry-item.is in
    (f, r)

pub loop-geometry-preserved : goal.loop-geometry-preserved
loop-geometry-preserved c = λ fs h.
    one_more (IsFeatureOf c.args.self.now.arcs.arcs) fs c.args.geometries.now c.loop-geometry.features.items c.push.new.self.items c.in_ok-feature.field-0 c.loop-geometry.geometry-index c.geometry-item.result h
    c.loop-geometry-test.true c.geometry-item.is c.in_ok-feature.ensures (c.loop-geometry.invariant fs h) c.in_ok-push.ensures.items

pub returns : goal.returns
returns c = λ fs h.
    all_made (IsFeatureOf c.args.self.now.arcs.arcs) fs c.args.geometries.now c.loop-geometry.features.items c.loop-geometry.geometry-index h c.loop-geometry-test.false (c.loop-geometry.invariant fs h)
