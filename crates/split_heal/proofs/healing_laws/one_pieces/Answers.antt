use Rattle.split_heal.proofs.ProvedHealingLaws.{one_pieces}
use Rattle.split_heal.proofs.healing_laws.one_pieces.Goals as goal

pub returns : goal.returns
returns c = one_pieces
