use Rattle.std.proofs.Common.{◌≡◌, drop}
use Rattle.snapping.specs.NearlyShared.Shared.{has_another}
use Rattle.snapping.proofs.nearly_shared.counts.has_another.Given as goal

abbrev pub invariant-loop-used : goal.invariant-loop-used
invariant-loop-used l = has_another l.fn.feature (drop l.used-index l.fn.uses) ≡ has_another l.fn.feature l.fn.uses
