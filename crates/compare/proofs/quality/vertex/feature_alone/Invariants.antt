use Rattle.std.proofs.Common.{◌≡◌, drop}
use Rattle.compare.specs.Quality.Near.{other_feature}
use Rattle.compare.proofs.quality.vertex.feature_alone.Given as goal

abbrev pub invariant-loop-used : goal.invariant-loop-used
invariant-loop-used l = other_feature (drop l.used-index l.fn.one.uses.now) l.fn.other.uses.now ≡ other_feature l.fn.one.uses.now l.fn.other.uses.now
