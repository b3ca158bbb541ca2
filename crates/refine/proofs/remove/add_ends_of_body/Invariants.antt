use Rattle.std.proofs.Common.{◌≡◌, ◌++◌}
use Rattle.theory.specs.Lists.{gathered}
use Rattle.topo.specs.BodyLists.{body_lines}
use Rattle.topo.specs.LayerLaws.LeftLists.{line_ends}
use Rattle.refine.proofs.remove.add_ends_of_body.Given as goal

abbrev pub invariant-loop-used : goal.invariant-loop-used
invariant-loop-used l =
    l.ends.items ++ gathered (line_ends l.fn.topology.arcs.arcs) l.used-iterator
    ≡ l.fn.ends.items ++ gathered (line_ends l.fn.topology.arcs.arcs) (body_lines l.fn.body)
