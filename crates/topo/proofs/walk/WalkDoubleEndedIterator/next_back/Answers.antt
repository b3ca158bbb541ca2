use Rattle.topo.proofs.Walks.{back_step}
use Rattle.topo.proofs.walk.WalkDoubleEndedIterator.next_back.Goals as goal

pub loop-last-preserved : goal.loop-last-preserved
loop-last-preserved c =
    back_step c.loop-last.self-inside.arcs.now.arcs c.loop-last.self-inside.front c.loop-last.self-inside.middle.now
    c.in-Some-split_last.rest.now c.in-Some-split_last.used.now c.loop-last.self-inside.back c.behind_first-self-inside.result _
    c.loop-last.invariant c.in_default.ensures.0 c.in-Some-split_last.ensures.cases.0 c.behind_first-self-inside.ensures
