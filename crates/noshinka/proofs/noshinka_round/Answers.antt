-- What was made is in the room, or why nothing was made.
use Rattle.noshinka.proofs.Ending.{ends}
use Rattle.noshinka.proofs.noshinka_round.Goals as goal

pub returns : goal.returns
returns c = ends _ _ c.round.result _ _ _ c.round.ensures.made c.round.ensures.refused c.answer.ensures.done c.answer.ensures.refused
