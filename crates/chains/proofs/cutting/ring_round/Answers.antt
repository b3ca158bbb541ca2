use Rattle.std.proofs.Common.{sym}
use Rattle.chains.proofs.TablesAsMap.{unclosed_rest}
use Rattle.chains.proofs.cutting.ring_round.Goals as goal

pub returns-in-Some : goal.returns-in-Some
returns-in-Some c = sym (unclosed_rest c.args.arc.now c.in-Some.ring.now c.in-Some.field-0-0.now c.in-Some.ensures.cases.0)
