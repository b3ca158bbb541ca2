use Rattle.rounded_maps.proofs.Faultless.{no_faults}
use Rattle.rounded_maps.proofs.laws.rounded_maps_are_faultless.Goals as goal

pub returns : goal.returns
returns c = no_faults
