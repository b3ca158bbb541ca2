use Rattle.decimal_arcs.proofs.Snapped.{text_answer}
use Rattle.decimal_arcs.proofs.axes.snapped_text.Goals as goal

pub returns : goal.returns
returns c = text_answer c.args.step.now c.args.text.now c.snap_measured.result c.size-size.ensures.limits (rw c.as_bytes.ensures.value at c.snap_measured.ensures)
