-- The scales so far, with those that are left, are all.
use Rattle.std.proofs.Common.{◌≡◌, ◌++◌, drop, map}
use Rattle.noshinka.specs.RoundOptions.{scale_of, scale_pair}
use Rattle.noshinka.proofs.rules.scales_of.Given as goal

abbrev pub invariant-loop-scale : goal.invariant-loop-scale
invariant-loop-scale l = map scale_pair l.named.items ++ map scale_of (drop l.scale-index l.fn.scales) ≡ map scale_of l.fn.scales
