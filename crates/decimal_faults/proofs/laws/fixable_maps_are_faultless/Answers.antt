use Rattle.decimal_faults.proofs.SoundMaps.{map_is_fixable, map_is_sound}
use Rattle.decimal_faults.proofs.laws.fixable_maps_are_faultless.Goals as goal

pub returns-clause-sound : goal.returns-clause-sound
returns-clause-sound c = map_is_sound

pub returns-clause-fixable : goal.returns-clause-fixable
returns-clause-fixable c = map_is_fixable
