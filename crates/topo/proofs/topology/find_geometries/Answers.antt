use Rattle.topo.proofs.LayersNamed.{named_here, named_later, named_nowhere}
use Rattle.topo.proofs.topology.find_geometries.Goals as goal

pub loop-layer-init : goal.loop-layer-init
loop-layer-init c = λ k h e. h

pub loop-layer-preserved : goal.loop-layer-preserved
loop-layer-preserved c = λ k h e.
    named_later c.args.layers.now c.args.name.now c.loop-layer.layer-index c.layer-item.result c.is_named.result k c.loop-layer-test.true c.layer-item.is c.is_named.ensures
    c.if-is_named.false e (c.loop-layer.invariant k h e)

pub returns-then-is_named-clause-found : goal.returns-then-is_named-clause-found
returns-then-is_named-clause-found c =
    named_here c.args.layers.now c.args.name.now c.loop-layer.layer-index c.layer-item.result c.is_named.result c.geometries.result.now c.loop-layer-test.true c.layer-item.is
    c.is_named.ensures c.if-is_named.true c.geometries.ensures

pub returns-clause-none : goal.returns-clause-none
returns-clause-none c = λ k h e. named_nowhere c.args.layers.now c.loop-layer.layer-index k c.loop-layer-test.false (c.loop-layer.invariant k h e)
