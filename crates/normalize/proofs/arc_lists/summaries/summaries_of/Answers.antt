use Rattle.std.proofs.Common.{subst}
use Rattle.lines.proofs.Dropping.{drop_item}
use Rattle.normalize.specs.ArcLists.Summaries.{IsSummary}
use Rattle.normalize.proofs.Numbered.{made_all, made_on}
use Rattle.normalize.proofs.arc_lists.summaries.summaries_of.Goals as goal

pub loop-arc-preserved : goal.loop-arc-preserved
loop-arc-preserved c =
    let arcs = c.args.arcs.now in
    let n = c.loop-arc.arc-index in
    let arc = c.arc-item.result in
    made_on IsSummary arcs c.loop-arc.summaries.items c.push.new.self.items n arc c.in_ok-of.field-0
    (drop_item arcs n arc c.loop-arc-test.true c.arc-item.is) c.in_ok-push.ensures.items
    (subst (λ w. IsSummary w c.in_ok-of.field-0) c.as_slice.ensures c.in_ok-of.ensures) c.loop-arc.invariant

pub returns : goal.returns
returns c = made_all IsSummary c.args.arcs.now c.loop-arc.summaries.items c.loop-arc.arc-index c.loop-arc-test.false c.loop-arc.invariant
