use Rattle.std.proofs.Common.{◌∙◌, ap}
use Rattle.topo.specs.Walked.{walked}
use Rattle.topo.proofs.Stitched.{line_faultless, line_made}
use Rattle.topo.proofs.stitching.LineStitch.stitch.Goals as goal

pub from_sound-requires : goal.from_sound-requires
from_sound-requires c =
    line_faultless c.args.arcs.now.arcs c.args.used.now c.in_ok-walked_positions.field-0.items (c.in_ok-walked_positions.ensures ∙ ap (walked c.args.arcs.now.arcs) c.as_slice.ensures)
    c.requires.0 c.requires.1

pub returns : goal.returns
returns c = λ s h.
    line_made c.args.arcs.now.arcs c.args.used.now c.in_ok-walked_positions.field-0.items (c.in_ok-walked_positions.ensures ∙ ap (walked c.args.arcs.now.arcs) c.as_slice.ensures)
    c.from_sound.result c.from_sound.ensures s h
