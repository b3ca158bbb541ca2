use Rattle.std.proofs.Common.{◌≡◌, ◌++◌, drop}
use Rattle.theory.specs.Lists.{gathered}
use Rattle.validate.specs.ArcEnds.{line_ends}
use Rattle.validate.specs.Accept.Lists.{lines_of}
use Rattle.validate.proofs.accept.ends.add_geometries.Given as goal

abbrev pub invariant-loop-geometry : goal.invariant-loop-geometry
invariant-loop-geometry g l =
    l.ends.items ++ gathered (line_ends (g.A.NumberedArcs.arcs l.fn.arcs)) (lines_of (drop l.geometry-index l.fn.geometries))
    ≡ l.fn.ends.items ++ gathered (line_ends (g.A.NumberedArcs.arcs l.fn.arcs)) (lines_of l.fn.geometries)
