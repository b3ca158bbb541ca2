use Rattle.std.proofs.Common.{◌≡◌, drop}
use Rattle.attributes.specs.Attributes.{seen_member}
use Rattle.attributes.specs.Values.{has_beyond}
use Rattle.attributes.proofs.properties.has_beyond.Given as goal

abbrev pub invariant-loop-scale : goal.invariant-loop-scale
invariant-loop-scale l = has_beyond (drop l.scale-index l.scales) (seen_member l.properties) ≡ has_beyond l.scales (seen_member l.properties)
