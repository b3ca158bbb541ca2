use Rattle.fixing.proofs.ProvedLaws.{sound_lines_stay, sound_multi_lines_stay, sound_polygons_stay, sound_rings_stay}
use Rattle.fixing.proofs.laws.sound_shapes_stay.Goals as goal

pub returns-clause-lines : goal.returns-clause-lines
returns-clause-lines c = sound_lines_stay

pub returns-clause-rings : goal.returns-clause-rings
returns-clause-rings c = sound_rings_stay

pub returns-clause-multi_lines : goal.returns-clause-multi_lines
returns-clause-multi_lines c = sound_multi_lines_stay

pub returns-clause-polygons : goal.returns-clause-polygons
returns-clause-polygons c = sound_polygons_stay
