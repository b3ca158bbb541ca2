use Rattle.std.proofs.Common.{◌≡◌, Bool, true, cond, drop, ◌+◌, sym, ap, ◌∙◌}
use Rattle.lines.proofs.Dropping.{drop_item}
use Rattle.lines.proofs.Positions.{derived_is}
use Rattle.lines.specs.Neighbours.{equal_neighbours}
use Rattle.normalize.specs.Repeats.{some_repeats}
use Rattle.normalize.proofs.Repeating.{judged_on}
use Rattle.normalize.proofs.repeats.some_repeats.Goals as goal

pub returns-then-has_equal_neighbours : goal.returns-then-has_equal_neighbours
returns-then-has_equal_neighbours c =
    let n = c.loop-arc.arc-index in
    let arcs = c.args.arcs.now in
    sym (judged_on arcs n c.arc-item.result c.has_equal_neighbours.result _ derived_is (drop_item arcs n c.arc-item.result c.loop-arc-test.true c.arc-item.is)
    c.loop-arc.invariant (c.has_equal_neighbours.ensures ∙ ap (equal_neighbours _) c.as_slice.ensures)
    ∙ ap (λ b. cond b true (some_repeats (drop (n + 1) arcs))) c.if-has_equal_neighbours.true)

pub loop-arc-preserved : goal.loop-arc-preserved
loop-arc-preserved c =
    let n = c.loop-arc.arc-index in
    let arcs = c.args.arcs.now in
    sym (judged_on arcs n c.arc-item.result c.has_equal_neighbours.result _ derived_is (drop_item arcs n c.arc-item.result c.loop-arc-test.true c.arc-item.is)
    c.loop-arc.invariant (c.has_equal_neighbours.ensures ∙ ap (equal_neighbours _) c.as_slice.ensures)
    ∙ ap (λ b. cond b true (some_repeats (drop (n + 1) arcs))) c.if-has_equal_neighbours.false)
