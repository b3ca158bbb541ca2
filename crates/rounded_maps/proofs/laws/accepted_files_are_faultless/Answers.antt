use Rattle.rounded_maps.proofs.Faultless.{file_sound}
use Rattle.rounded_maps.proofs.laws.accepted_files_are_faultless.Goals as goal

pub returns : goal.returns
returns c = file_sound
