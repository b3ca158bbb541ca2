use Rattle.std.proofs.Common.{◌≡◌, ◌++◌, drop, map}
use Rattle.fixing.specs.Counts.{if_from}
use Rattle.rounded_maps.proofs.outcome.features_fixed.Given as goal

abbrev pub invariant-loop-number : goal.invariant-loop-number
invariant-loop-number l = l.fixed.items ++ if_from l.number (map (λ f. f.fixes) (drop l.number l.features)) ≡ if_from 0 (map (λ f. f.fixes) l.features)
