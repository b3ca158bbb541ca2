use Rattle.std.proofs.Common.{◌≡◌, ◌++◌, drop}
use Rattle.theory.specs.Lists.{gathered}
use Rattle.validate.specs.ArcEnds.{line_ends}
use Rattle.validate.specs.Accept.Lists.{layers_lines}
use Rattle.validate.proofs.accept.ends.line_ends.Given as goal

abbrev pub invariant-loop-layer : goal.invariant-loop-layer
invariant-loop-layer g l =
    l.ends.items ++ gathered (line_ends (g.A.NumberedArcs.arcs l.fn.arcs)) (layers_lines (drop l.layer-index l.fn.layers)) ≡ gathered (line_ends (g.A.NumberedArcs.arcs l.fn.arcs)) (layers_lines l.fn.layers)
