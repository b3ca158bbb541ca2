use Rattle.std.proofs.Common.{◌≢◌, drop}
use Rattle.compare.specs.declared.quality.vertex.VertexUse.{VertexUse}
use Rattle.snapping.specs.NearlyShared.Joined.{target_in}
use Rattle.theory.specs.Lists.{Has}
use Rattle.snapping.proofs.nearly_shared.clusters.Clusters.moves_any.Given as goal

abbrev pub invariant-loop-used : goal.invariant-loop-used
invariant-loop-used l = (u : VertexUse) → Has u l.used-items → target_in l.self u.at ≢ u.at → Has u (drop l.used-index l.used-items)
