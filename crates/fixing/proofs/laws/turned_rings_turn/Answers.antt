use Rattle.fixing.proofs.ProvedLaws.{turned_rings_stay, turned_rings_turn}
use Rattle.fixing.proofs.laws.turned_rings_turn.Goals as goal

pub returns-clause-turn : goal.returns-clause-turn
returns-clause-turn c = turned_rings_turn

pub returns-clause-stay : goal.returns-clause-stay
returns-clause-stay c = turned_rings_stay
