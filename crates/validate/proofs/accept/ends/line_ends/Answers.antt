use Rattle.std.proofs.Common.{◌≡◌, ◌++◌, subst}
use Rattle.theory.specs.Lists.{gathered}
use Rattle.validate.specs.ArcEnds.{line_ends}
use Rattle.validate.specs.Accept.Lists.{layer_lines, layers_lines, lines_of}
use Rattle.validate.proofs.AcceptLemmas.Ending.{are_line_ends, more_ends, no_more_ends}
use Rattle.validate.proofs.accept.ends.line_ends.Goals as goal

pub loop-layer-preserved : goal.loop-layer-preserved
loop-layer-preserved g c =
    more_ends (g.A.NumberedArcs.arcs c.args.arcs.now) layer_lines c.args.layers.now c.loop-layer.layer-index c.layer-item.result c.loop-layer.ends.items c.add_geometries.new.ends.items
    (gathered (line_ends (g.A.NumberedArcs.arcs c.args.arcs.now)) (layers_lines c.args.layers.now)) c.loop-layer-test.true c.layer-item.is
    (subst (λ w. c.add_geometries.new.ends.items ≡ c.loop-layer.ends.items ++ gathered (line_ends (g.A.NumberedArcs.arcs c.args.arcs.now)) (lines_of w)) c.geometries.ensures c.in_ok-add_geometries.ensures)
    c.loop-layer.invariant

pub returns-clause-of_map : goal.returns-clause-of_map
returns-clause-of_map g c =
    are_line_ends (g.A.NumberedArcs.arcs c.args.arcs.now) c.loop-layer.ends.items (layers_lines c.args.layers.now)
    (no_more_ends (g.A.NumberedArcs.arcs c.args.arcs.now) layer_lines c.args.layers.now c.loop-layer.layer-index c.loop-layer.ends.items
    (gathered (line_ends (g.A.NumberedArcs.arcs c.args.arcs.now)) (layers_lines c.args.layers.now)) c.loop-layer-test.false c.loop-layer.invariant)
