use Rattle.fixing.proofs.ShapesStay as proved
use Rattle.fixing.proofs.laws.shapes_left_stay.Goals as goal

pub returns : goal.returns
returns c = proved.shapes_left_stay
