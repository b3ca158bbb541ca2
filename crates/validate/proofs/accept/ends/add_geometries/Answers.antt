use Rattle.std.proofs.Common.{◌++◌}
use Rattle.theory.specs.Lists.{gathered}
use Rattle.validate.specs.ArcEnds.{line_ends}
use Rattle.validate.specs.Accept.Lists.{lines_of}
use Rattle.topo.specs.BodyLists.{body_lines}
use Rattle.validate.proofs.AcceptLemmas.Ending.{more_ends}
use Rattle.validate.proofs.accept.ends.add_geometries.Goals as goal

pub loop-geometry-preserved : goal.loop-geometry-preserved
loop-geometry-preserved g c =
    more_ends (g.A.NumberedArcs.arcs c.args.arcs.now) (λ g. body_lines g.body) c.args.geometries.now c.loop-geometry.geometry-index c.geometry-item.result c.loop-geometry.ends.items c.add_body.new.ends.items
    (c.args.ends.now.items ++ gathered (line_ends (g.A.NumberedArcs.arcs c.args.arcs.now)) (lines_of c.args.geometries.now)) c.loop-geometry-test.true c.geometry-item.is c.in_ok-add_body.ensures c.loop-geometry.invariant
