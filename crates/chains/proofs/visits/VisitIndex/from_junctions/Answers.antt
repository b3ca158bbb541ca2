use Rattle.std.proofs.lemmas.List.Sorted.{IsPermutation-sym}
use Rattle.lines.proofs.SortedLists.{Has-permutation}
use Rattle.chains.proofs.visits.VisitIndex.from_junctions.Goals as goal

pub returns : goal.returns
returns c = λ p. (
  Has-permutation _ _ p (IsPermutation-sym _ _ c.sort_unstable.ensures.permutation),
  Has-permutation _ _ p c.sort_unstable.ensures.permutation,
)
