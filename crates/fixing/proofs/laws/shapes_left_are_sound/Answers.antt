use Rattle.fixing.proofs.ProvedLaws.{lines_left_are_sound, polygons_left_are_sound, rings_left_are_sound}
use Rattle.fixing.proofs.laws.shapes_left_are_sound.Goals as goal

pub returns-clause-lines : goal.returns-clause-lines
returns-clause-lines c = lines_left_are_sound

pub returns-clause-rings : goal.returns-clause-rings
returns-clause-rings c = rings_left_are_sound

pub returns-clause-polygons : goal.returns-clause-polygons
returns-clause-polygons c = polygons_left_are_sound
