use Rattle.std.proofs.Common.{◌++◌, ◌∙◌, ap, subst, sym}
use Rattle.theory.specs.Lists.{gathered}
use Rattle.theory.specs.TopologyFunction.{keep}
use Rattle.lines.specs.PositionFilter.{may_hold}
use Rattle.chains.specs.Noted.{recorded_in, visits_at}
use Rattle.chains.specs.VertexFilter.{KeepsClashes}
use Rattle.chains.specs.declared.visits.Visit.{Visit}
use Rattle.chains.proofs.Recurring.{held_kept, keep_both}
use Rattle.chains.proofs.repeats.find_repeated.Goals as goal

pub returns : goal.returns
returns c =
    let inner = gathered visits_at c.args.inner.now in
    let seams = c.args.seams.now in
    let f = λ (v : Visit). may_hold c.in_ok-repeats.repeats.again v.vertex in
    subst (λ l. KeepsClashes l (recorded_in c.args.inner.now seams))
    (keep_both f inner seams
    ∙ sym (c.in_ok-keep_visits.ensures ∙ ap (λ l. l ++ keep f seams) (c.in_ok-keep_inner.ensures ∙ ap (λ l. l ++ keep f inner) c.new-kept.ensures.items)))
    (held_kept (may_hold c.in_ok-repeats.repeats.again) (recorded_in c.args.inner.now seams) c.in_ok-repeats.ensures)
