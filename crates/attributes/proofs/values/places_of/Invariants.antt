use Rattle.std.proofs.Common.{◌≡◌, drop}
use Rattle.attributes.specs.Values.{places_of}
use Rattle.attributes.proofs.values.places_of.Given as goal

abbrev pub invariant-loop-scale : goal.invariant-loop-scale
invariant-loop-scale l = places_of (drop l.scale-index l.scales) l.name ≡ places_of l.scales l.name
