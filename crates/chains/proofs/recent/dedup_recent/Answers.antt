use Rattle.std.proofs.Common.{arith}
use Rattle.std.proofs.lemmas.Grind.{common_steps}
use Rattle.chains.proofs.Same.{same_step}
use Rattle.chains.proofs.recent.dedup_recent.Goals as goal

pub loop-position-preserved : goal.loop-position-preserved
loop-position-preserved c = same_step _ c.in_ok-insert.ensures c.loop-position.invariant (grind (arith, common_steps))
