use Rattle.std.proofs.Common.{◌∙◌, ◌<◌, ◌^◌, ap, length, subst, sym}
use Rattle.theory.specs.Lists.{joined}
use Rattle.topo.specs.Box.{box_by, numbers_of}
use Rattle.topo.proofs.Boxes.{box_append}
use Rattle.topo.proofs.bounds.around_arcs.Goals as goal

pub loop-arc-preserved : goal.loop-arc-preserved
loop-arc-preserved c =
    ap (λ w. box_by numbers_of w (joined c.next.new.self)) c.around-corners.ensures
    ∙ sym (box_append numbers_of c.loop-arc.corners c.in-Some.arc.now (joined c.next.new.self))
    ∙ ap (λ l. box_by numbers_of c.loop-arc.corners (joined l)) (sym c.in-Some.ensures.steps)
    ∙ c.loop-arc.invariant

pub returns-clause-few : goal.returns-clause-few
returns-clause-few c = subst (λ l. length l < 2 ^ 63) c.iter-arc-items.ensures.arcs c.iter-arc-items.ensures.small
