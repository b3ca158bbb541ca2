use Rattle.decimal_faults.proofs.Items.{Judged}
use Rattle.reading.specs.FaultLists.Found.{pairs_of}
use Rattle.decimal_faults.proofs.lists.judge_from.Given as goal

abbrev pub invariant-loop-i : goal.invariant-loop-i
invariant-loop-i g l = Judged (g.P.Part.faults l.of l.fixing) l.values l.first l.i (pairs_of l.found.items)
