use Rattle.std.proofs.Common.{ap}
use Rattle.sinks.proofs.Left.{left_step, left_part}
use Rattle.query.specs.ByArcs.{geom_text}
use Rattle.query.specs.Sequences.{lines}
use Rattle.query.proofs.layer_text.sequence.write_lines.Goals as goal

pub loop-geometry-preserved : goal.loop-geometry-preserved
loop-geometry-preserved g c = left_step _ c.loop-geometry.invariant (ap (lines (geom_text c.args.topology.now)) c.in-Some.ensures.cases.0) c.in-Ok.ensures.whole

pub returns-in-Err-clause-part : goal.returns-in-Err-clause-part
returns-in-Err-clause-part g c = left_part _ c.loop-geometry.invariant (ap (lines (geom_text c.args.topology.now)) c.in-Some.ensures.cases.0) c.in-Err.ensures.part
