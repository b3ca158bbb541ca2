use Rattle.std.proofs.Common.{ap}
use Rattle.arcs.specs.ArcTexts.{difference_text, differences_text}
use Rattle.sinks.proofs.Left.{left_step, left_part}
use Rattle.arcs.proofs.writing.write_differences.Goals as goal

pub loop-p-preserved : goal.loop-p-preserved
loop-p-preserved g c =
    left_step {s = difference_text c.loop-p.before c.in-Some.p.now} _ c.loop-p.invariant (ap (differences_text c.loop-p.before) c.in-Some.ensures.cases.0)
    (rw (← c.difference.ensures.x, ← c.difference.ensures.y) c.in-Ok.ensures.whole)

pub returns-in-Err-clause-part : goal.returns-in-Err-clause-part
returns-in-Err-clause-part g c =
    left_part {s = difference_text c.loop-p.before c.in-Some.p.now} _ c.loop-p.invariant (ap (differences_text c.loop-p.before) c.in-Some.ensures.cases.0)
    (rw (← c.difference.ensures.x, ← c.difference.ensures.y) c.in-Err.ensures.part)
