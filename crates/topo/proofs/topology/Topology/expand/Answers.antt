use Rattle.std.proofs.Common.{sym, subst}
use Rattle.std.specs.FinMap.{empty, entries}
use Rattle.topo.specs.OfMap.{IsOf}
use Rattle.topo.proofs.Expanded.{features_within, layer_step, layers_done}
use Rattle.topo.proofs.Filling.{with_entries}
use Rattle.topo.proofs.topology.Topology.expand.Goals as goal

pub put_layer-requires : goal.put_layer-requires
put_layer-requires c =
    features_within c.args.self.now c.layers-layer-items.result.now c.layers-layer-items.ensures.layers c.loop-layer.layer-index c.layer-item.result
    c.layers-layer-items.ensures.of_map c.loop-layer-test.true c.layer-item.is

pub loop-layer-preserved : goal.loop-layer-preserved
loop-layer-preserved c = λ m h.
    layer_step c.args.self.now c.layers-layer-items.result.now c.layers-layer-items.ensures.layers c.loop-layer.layer-index m c.loop-layer.map c.in_ok-map.map
    (with_entries empty (entries m)) c.layer-item.result h c.loop-layer-test.true c.layer-item.is c.in_ok-map.ensures (c.loop-layer.invariant m h)

pub returns-clause-of_map : goal.returns-clause-of_map
returns-clause-of_map c =
    let (m, h) = c.layers-layer-items.ensures.of_map in
    subst (λ w. IsOf w c.args.self.now)
    (sym (layers_done c.args.self.now c.layers-layer-items.result.now c.layers-layer-items.ensures.layers c.loop-layer.layer-index m c.loop-layer.map h
    c.loop-layer-test.false (c.loop-layer.invariant m h)))
    h

pub returns-clause-only : goal.returns-clause-only
returns-clause-only c = λ m h.
    layers_done c.args.self.now c.layers-layer-items.result.now c.layers-layer-items.ensures.layers c.loop-layer.layer-index m c.loop-layer.map h c.loop-layer-test.false
    (c.loop-layer.invariant m h)
