use Rattle.std.proofs.Common.{◌+◌, ◌∷◌, drop, ap, sym, ◌∙◌}
use Rattle.std.specs.Ordering.{is_lt}
use Rattle.lines.proofs.Dropping.{drop_item}
use Rattle.validate.specs.Accept.Order.{name_cmp, rises}
use Rattle.validate.proofs.AcceptLemmas.Rising.{rising_step, rising_stop}
use Rattle.validate.proofs.accept.order.names_rise.Goals as goal

pub returns-then-not-is_lt : goal.returns-then-not-is_lt
returns-then-not-is_lt c =
    let others = c.in-Some.others.now in
    let i = c.loop-layer.layer-index in
    rising_stop name_cmp c.loop-layer.before.now c.layer-item.result (drop (i + 1) others) c.is_lt.result (c.is_lt.ensures ∙ ap is_lt c.name_order.ensures) c.if-not-is_lt.true
    ∙ ap (λ w. rises name_cmp (c.loop-layer.before.now ∷ w)) (sym (drop_item others i c.layer-item.result c.loop-layer-test.true c.layer-item.is))
    ∙ c.loop-layer.invariant

pub loop-layer-preserved : goal.loop-layer-preserved
loop-layer-preserved c =
    let others = c.in-Some.others.now in
    let i = c.loop-layer.layer-index in
    sym (rising_step name_cmp c.loop-layer.before.now c.layer-item.result (drop (i + 1) others) c.is_lt.result (c.is_lt.ensures ∙ ap is_lt c.name_order.ensures) c.if-not-is_lt.false)
    ∙ ap (λ w. rises name_cmp (c.loop-layer.before.now ∷ w)) (sym (drop_item others i c.layer-item.result c.loop-layer-test.true c.layer-item.is))
    ∙ c.loop-layer.invariant
