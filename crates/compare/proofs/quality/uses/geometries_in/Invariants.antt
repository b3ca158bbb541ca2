use Rattle.std.proofs.Common.{◌≡◌, ◌++◌, drop}
use Rattle.theory.specs.Lists.{gathered}
use Rattle.compare.specs.Quality.Uses.{borrowed}
use Rattle.compare.proofs.quality.uses.geometries_in.Given as goal

abbrev pub invariant-loop-layer : goal.invariant-loop-layer
invariant-loop-layer l =
    borrowed l.recorded.items ++ gathered (λ k. k.geometries) (drop l.layer-index l.fn.layers) ≡ gathered (λ k. k.geometries) l.fn.layers
