use Rattle.std.proofs.Common.{ap, sym, true, ◌∙◌}
use Rattle.theory.specs.Lists.{joined}
use Rattle.arcs.specs.ArcMarks.{marks_set}
use Rattle.arcs.proofs.SetMarks.{marks_join}
use Rattle.topo.proofs.used_arcs.mark_body.Goals as goal

pub loop-refs-preserved : goal.loop-refs-preserved
loop-refs-preserved c =
    ap (λ w. marks_set true w (joined c.next.new.self)) (c.set_each.ensures.after ∙ ap (marks_set true c.loop-refs.marks) c.as_slice.ensures)
    ∙ sym (marks_join c.loop-refs.marks c.in-Some.refs.now (joined c.next.new.self))
    ∙ ap (λ ls. marks_set true c.loop-refs.marks (joined ls)) (sym c.in-Some.ensures.steps)
    ∙ c.loop-refs.invariant
