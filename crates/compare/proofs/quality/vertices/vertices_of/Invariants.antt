use Rattle.std.proofs.Common.{length}
use Rattle.std.specs.List.Sorted.{IsSorted}
use Rattle.compare.specs.Quality.Uses.{use_cmp}
use Rattle.compare.proofs.QualityLemmas.Grouping.{Grouped, Ordered}
use Rattle.compare.proofs.quality.vertices.vertices_of.Given as goal

abbrev pub invariant-loop-first : goal.invariant-loop-first
invariant-loop-first l = record {
  grouped : Grouped l.fn.uses l.left l.vertices.items;
  ordered : IsSorted use_cmp l.fn.uses → Ordered l.left l.vertices.items;
}

abbrev pub decreases-loop-first : goal.decreases-loop-first
decreases-loop-first l = length l.left
