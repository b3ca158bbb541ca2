use Rattle.std.proofs.Common.{◌+◌, ◌∷◌, drop, ap, sym, ◌∙◌}
use Rattle.std.specs.Ordering.{is_lt}
use Rattle.arcs.specs.Stored.{rises}
use Rattle.lines.proofs.Dropping.{drop_item}
use Rattle.arcs.proofs.ArcsInOrder.{rising_step, rising_stop}
use Rattle.arcs.proofs.ordered.is_rising.Goals as goal

pub returns-then-not-is_lt : goal.returns-then-not-is_lt
returns-then-not-is_lt c =
    let others = c.in-Some.others.now in
    let i = c.loop-arc.arc-index in
    rising_stop c.loop-arc.last.now c.arc-item.result (drop (i + 1) others) c.is_lt.result (c.is_lt.ensures ∙ ap is_lt c.cmp.ensures) (sym c.if-not-is_lt.true)
    ∙ ap (λ w. rises (c.loop-arc.last.now ∷ w)) (sym (drop_item others i c.arc-item.result c.loop-arc-test.true c.arc-item.is))
    ∙ c.loop-arc.invariant

pub loop-arc-preserved : goal.loop-arc-preserved
loop-arc-preserved c =
    let others = c.in-Some.others.now in
    let i = c.loop-arc.arc-index in
    sym (rising_step c.loop-arc.last.now c.arc-item.result (drop (i + 1) others) c.is_lt.result (c.is_lt.ensures ∙ ap is_lt c.cmp.ensures) (sym c.if-not-is_lt.false))
    ∙ ap (λ w. rises (c.loop-arc.last.now ∷ w)) (sym (drop_item others i c.arc-item.result c.loop-arc-test.true c.arc-item.is))
    ∙ c.loop-arc.invariant
