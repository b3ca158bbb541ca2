use Rattle.std.proofs.Common.{◌+◌, ◌∷◌, drop, ap, sym, subst, ◌∙◌}
use Rattle.std.specs.Ordering.{is_lt}
use Rattle.lines.proofs.Dropping.{drop_item}
use Rattle.topo.specs.GeometryOrder.{HaveFeatures, geometry_cmp}
use Rattle.validate.specs.Accept.Order.{rises}
use Rattle.validate.proofs.AcceptLemmas.Rising.{rising_step, rising_stop}
use Rattle.validate.proofs.accept.order.geometries_rise.Goals as goal

pub order-requires-clause-other_there : goal.order-requires-clause-other_there
order-requires-clause-other_there c =
    (subst (HaveFeatures c.args.table.now.arcs) (drop_item c.in-Some.others.now c.loop-geometry.geometry-index c.geometry-item.result c.loop-geometry-test.true c.geometry-item.is)
    c.loop-geometry.invariant.there.1).0

pub returns-then-not-is_lt-clause-rise : goal.returns-then-not-is_lt-clause-rise
returns-then-not-is_lt-clause-rise c =
    let cmp = geometry_cmp c.args.table.now.arcs in
    let others = c.in-Some.others.now in
    let i = c.loop-geometry.geometry-index in
    rising_stop cmp c.loop-geometry.before.now c.geometry-item.result (drop (i + 1) others) c.is_lt.result (c.is_lt.ensures ∙ ap is_lt c.in_ok-order.ensures.order)
    c.if-not-is_lt.true
    ∙ ap (λ w. rises cmp (c.loop-geometry.before.now ∷ w)) (sym (drop_item others i c.geometry-item.result c.loop-geometry-test.true c.geometry-item.is))
    ∙ c.loop-geometry.invariant.rest

pub loop-geometry-preserved : goal.loop-geometry-preserved
loop-geometry-preserved c =
    let cmp = geometry_cmp c.args.table.now.arcs in
    let others = c.in-Some.others.now in
    let i = c.loop-geometry.geometry-index in
    record {
      there = subst (HaveFeatures c.args.table.now.arcs) (drop_item others i c.geometry-item.result c.loop-geometry-test.true c.geometry-item.is) c.loop-geometry.invariant.there.1;
      recorded = c.order.ensures.recorded;
      rest = sym (rising_step cmp c.loop-geometry.before.now c.geometry-item.result (drop (i + 1) others) c.is_lt.result
          (c.is_lt.ensures ∙ ap is_lt c.in_ok-order.ensures.order) c.if-not-is_lt.false)
          ∙ ap (λ w. rises cmp (c.loop-geometry.before.now ∷ w)) (sym (drop_item others i c.geometry-item.result c.loop-geometry-test.true c.geometry-item.is))
          ∙ c.loop-geometry.invariant.rest;
    }
