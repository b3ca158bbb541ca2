use Rattle.lines.proofs.Windows.{least_window}
use Rattle.lines.proofs.ring.least_start.Goals as goal

pub returns : goal.returns
returns c =
    least_window c.windows.result c.args.closed.now c.unwrap_or.result c.position_min.result c.windows.ensures.rest c.windows.ensures.size c.requires
    c.windows.ensures.runs c.position_min.ensures.runs c.unwrap_or.ensures
