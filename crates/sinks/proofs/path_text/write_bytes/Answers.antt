use Rattle.std.proofs.Common.{ap}
use Rattle.sinks.specs.PathText.PathText.{bytes_text}
use Rattle.sinks.proofs.Left.{left_step, left_part}
use Rattle.sinks.proofs.path_text.write_bytes.Goals as goal

pub loop-byte-preserved : goal.loop-byte-preserved
loop-byte-preserved g c = left_step _ c.loop-byte.invariant (ap bytes_text c.in-Some.ensures.cases.0) c.in-Ok.ensures.whole

pub returns-in-Err-clause-part : goal.returns-in-Err-clause-part
returns-in-Err-clause-part g c = left_part _ c.loop-byte.invariant (ap bytes_text c.in-Some.ensures.cases.0) c.in-Err.ensures.part
