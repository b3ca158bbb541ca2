use Rattle.fixing.proofs.OpenRings as proved
use Rattle.fixing.proofs.laws.open_rings_are_closed.Goals as goal

pub returns : goal.returns
returns c = proved.open_rings_are_closed
