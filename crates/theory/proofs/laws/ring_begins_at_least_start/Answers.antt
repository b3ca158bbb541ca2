use Rattle.theory.proofs.ProvedLaws.{ring_begins_at_least_start}
use Rattle.theory.proofs.laws.ring_begins_at_least_start.Goals as goal

pub returns : goal.returns
returns c d = ring_begins_at_least_start
