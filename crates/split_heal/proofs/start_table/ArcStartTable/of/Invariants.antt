use Rattle.std.proofs.Common.{◌≡◌, drop}
use Rattle.theory.specs.ArcNumbers.{ArcRef}
use Rattle.split_heal.specs.Starts.{starts_by, starts_in, with_arcs}
use Rattle.split_heal.proofs.start_table.ArcStartTable.of.Given as goal

abbrev pub invariant-loop-i : goal.invariant-loop-i
invariant-loop-i l = (q : ArcRef) → with_arcs l.i (starts_in l.table) (drop l.i l.fn.pieces) q ≡ starts_by l.fn.pieces q
