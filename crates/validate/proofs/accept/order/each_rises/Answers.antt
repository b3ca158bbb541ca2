use Rattle.std.proofs.Common.{◌+◌, drop, refl, ap, sym, subst, ◌∙◌, ◌&&◌}
use Rattle.lines.proofs.Dropping.{drop_item}
use Rattle.topo.specs.GeometryOrder.{HaveFeatures, LayersHaveFeatures, geometry_cmp}
use Rattle.validate.specs.Accept.Order as spec
use Rattle.validate.proofs.accept.order.each_rises.Goals as goal

pub geometries_rise-requires-clause-there : goal.geometries_rise-requires-clause-there
geometries_rise-requires-clause-there c =
    let arcs = c.args.table.now.arcs in
    subst (HaveFeatures arcs) (sym c.geometries.ensures)
    (subst (LayersHaveFeatures arcs) (drop_item c.args.layers.now c.loop-layer.layer-index c.layer-item.result c.loop-layer-test.true c.layer-item.is) c.loop-layer.invariant.there).0

pub loop-layer-init : goal.loop-layer-init
loop-layer-init c = record { recorded = c.new-order.ensures c.args.table.now.arcs; there = c.requires.there; rest = refl }

pub returns-then-not-branch : goal.returns-then-not-branch
returns-then-not-branch c =
    let arcs = c.args.table.now.arcs in
    let i = c.loop-layer.layer-index in
    ap (λ b. b && spec.each_rises arcs (drop (i + 1) c.args.layers.now))
    (sym c.if-not-branch.true ∙ c.in_ok-geometries_rise.ensures.rise ∙ ap (spec.rises (geometry_cmp arcs)) c.geometries.ensures)
    ∙ ap (spec.each_rises arcs) (sym (drop_item c.args.layers.now i c.layer-item.result c.loop-layer-test.true c.layer-item.is))
    ∙ c.loop-layer.invariant.rest

pub loop-layer-preserved : goal.loop-layer-preserved
loop-layer-preserved c =
    let arcs = c.args.table.now.arcs in
    let i = c.loop-layer.layer-index in
    let parts = drop_item c.args.layers.now i c.layer-item.result c.loop-layer-test.true c.layer-item.is in
    record {
      recorded = c.geometries_rise.ensures.recorded;
      there = (subst (LayersHaveFeatures arcs) parts c.loop-layer.invariant.there).1;
      rest = ap (λ b. b && spec.each_rises arcs (drop (i + 1) c.args.layers.now))
          (sym c.if-not-branch.false ∙ c.in_ok-geometries_rise.ensures.rise ∙ ap (spec.rises (geometry_cmp arcs)) c.geometries.ensures)
          ∙ ap (spec.each_rises arcs) (sym parts)
          ∙ c.loop-layer.invariant.rest;
    }
