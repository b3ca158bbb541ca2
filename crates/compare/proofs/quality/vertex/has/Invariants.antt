use Rattle.std.proofs.Common.{◌≡◌, drop}
use Rattle.compare.specs.Quality.Near.{has_feature}
use Rattle.compare.proofs.quality.vertex.has.Given as goal

abbrev pub invariant-loop-used : goal.invariant-loop-used
invariant-loop-used l = has_feature l.fn.feature (drop l.used-index l.fn.uses) ≡ has_feature l.fn.feature l.fn.uses
