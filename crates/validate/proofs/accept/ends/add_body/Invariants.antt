use Rattle.std.proofs.Common.{◌≡◌, ◌++◌}
use Rattle.theory.specs.Lists.{gathered}
use Rattle.topo.specs.BodyLists.{body_lines}
use Rattle.validate.specs.ArcEnds.{line_ends}
use Rattle.validate.proofs.accept.ends.add_body.Given as goal

abbrev pub invariant-loop-refs : goal.invariant-loop-refs
invariant-loop-refs g l =
    l.ends.items ++ gathered (line_ends (g.A.NumberedArcs.arcs l.fn.arcs)) l.refs-iterator ≡ l.fn.ends.items ++ gathered (line_ends (g.A.NumberedArcs.arcs l.fn.arcs)) (body_lines l.fn.body)
