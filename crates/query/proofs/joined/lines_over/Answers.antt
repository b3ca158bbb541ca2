use Rattle.query.proofs.ChosenArcs.{lines_over}
use Rattle.query.proofs.joined.lines_over.Goals as goal

pub returns : goal.returns
returns c =
    lines_over c.args.topology.now c.arcs-arcs.ensures.of_map c.arcs-arcs.result.now c.arcs-arcs.ensures.arcs c.args.chosen.now
    c.in_ok-stops.stops.items c.deref-2.result.now c.in_ok-stops.ensures c.deref-2.ensures.value
    c.len.result c.in_ok-marks.marks.items c.deref.result.now c.len.ensures.len c.in_ok-marks.ensures c.deref.ensures.value
    c.in_ok-joined.joined c.in_ok-joined.ensures.refined c.into_parts-lines.result.0 c.into_parts-lines.ensures.arcs
