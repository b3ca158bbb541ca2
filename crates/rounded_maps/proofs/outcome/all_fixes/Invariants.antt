use Rattle.std.proofs.Common.{◌≡◌, drop, map}
use Rattle.fixing.specs.Counts.{no_fixes, total_from}
use Rattle.rounded_maps.proofs.outcome.all_fixes.Given as goal

abbrev pub invariant-loop-feature : goal.invariant-loop-feature
invariant-loop-feature l = total_from l.all (map (λ f. f.fixes) (drop l.feature-index l.features)) ≡ total_from no_fixes (map (λ f. f.fixes) l.features)
