use Rattle.theory.proofs.ProvedLaws.{ring_replaced_and_turned}
use Rattle.theory.proofs.laws.ring_replaced_and_turned.Goals as goal

pub returns : goal.returns
returns c d = ring_replaced_and_turned
