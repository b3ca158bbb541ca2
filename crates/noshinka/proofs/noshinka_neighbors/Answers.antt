-- What was made is in the room, or why nothing was made.
use Rattle.noshinka.proofs.Ending.{ends}
use Rattle.noshinka.proofs.noshinka_neighbors.Goals as goal

pub returns : goal.returns
returns c = ends _ _ c.neighbors.result _ _ _ c.neighbors.ensures.neighbors c.neighbors.ensures.refused c.answer.ensures.done c.answer.ensures.refused
