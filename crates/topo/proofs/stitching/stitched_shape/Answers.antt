use Rattle.topo.proofs.Shapes.{line_within, polygons_made, polygons_within}
use Rattle.topo.proofs.stitching.stitched_shape.Goals as goal

pub stitch-requires : goal.stitch-requires
stitch-requires c = line_within c.args.arcs.now.arcs c.requires.0 c.args.body.now c.in-Line.used c.requires.1 c.in-Line.is

pub stitch-requires-in-MultiPolygon : goal.stitch-requires-in-MultiPolygon
stitch-requires-in-MultiPolygon c =
    polygons_within c.args.arcs.now.arcs c.requires.0 c.args.body.now c.in-MultiPolygon.lists c.requires.1 c.in-MultiPolygon.is

pub returns-in_ok-stitch-in-MultiPolygon : goal.returns-in_ok-stitch-in-MultiPolygon
returns-in_ok-stitch-in-MultiPolygon c = λ s h.
    polygons_made c.args.arcs.now.arcs s c.args.body.now c.in-MultiPolygon.lists c.in_ok-stitch-in-MultiPolygon.field-0 h c.in-MultiPolygon.is
    c.in_ok-stitch-in-MultiPolygon.ensures
