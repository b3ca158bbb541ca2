use Rattle.std.proofs.Common.{◌≡◌, true}
use Rattle.theory.specs.Lists.{joined}
use Rattle.arcs.specs.ArcMarks.{marks_set}
use Rattle.topo.specs.UsedArcs.{body_refs}
use Rattle.topo.proofs.used_arcs.mark_body.Given as goal

abbrev pub invariant-loop-refs : goal.invariant-loop-refs
invariant-loop-refs l = marks_set true l.marks (joined l.refs-iterator) ≡ marks_set true l.fn.marks (body_refs l.fn.body)
