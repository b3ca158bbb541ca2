use Rattle.std.proofs.Common.{drop}
use Rattle.snapping.proofs.NearlySharedLemmas.Tables.{AreRecorded}
use Rattle.snapping.proofs.nearly_shared.neighbours.neighbours_of.Given as goal

abbrev pub invariant-loop-one : goal.invariant-loop-one
invariant-loop-one l = AreRecorded l.pairs (drop l.one-index l.pairs) l.near
