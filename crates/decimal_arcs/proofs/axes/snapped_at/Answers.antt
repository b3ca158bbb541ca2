use Rattle.reading.proofs.Positions.{number_reads}
use Rattle.decimal_arcs.proofs.Snapped.{axis_answer}
use Rattle.decimal_arcs.proofs.axes.snapped_at.Goals as goal

pub returns : goal.returns
returns c = axis_answer c.args.axis.now c.args.step.now c.args.number c.snap_measured.result c.size-size.ensures.limits (rw (number_reads c.args.number c.requires) at c.snap_measured.ensures)
