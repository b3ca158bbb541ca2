use Rattle.reading.specs.FaultLists.Found.{pairs_of}
use Rattle.decimal_topologies.proofs.Judging.{Judged}
use Rattle.decimal_topologies.proofs.stitching.judge_numbers.Given as goal

abbrev pub invariant-loop-i : goal.invariant-loop-i
invariant-loop-i l = Judged l.arcs l.values l.i l.end (pairs_of l.found.items)
