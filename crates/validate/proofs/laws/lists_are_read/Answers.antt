use Rattle.validate.proofs.Together.{lists_are_read}
use Rattle.validate.proofs.laws.lists_are_read.Goals as goal

pub returns : goal.returns
returns c = lists_are_read
