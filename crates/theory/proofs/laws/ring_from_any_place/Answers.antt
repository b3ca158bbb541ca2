use Rattle.theory.proofs.ProvedLaws.{ring_from_any_place}
use Rattle.theory.proofs.laws.ring_from_any_place.Goals as goal

pub returns : goal.returns
returns c d = ring_from_any_place
