use Rattle.std.proofs.Common.{map, drop}
use Rattle.serde_json.specs.View.{view}
use Rattle.reading.specs.Parts.{each_faults}
use Rattle.reading.specs.FaultLists.Found.{pairs_of}
use Rattle.reading.proofs.FaultListsLemmas.Kept.{FoundSoFar}
use Rattle.reading.proofs.fault_lists.judge.judge_each.Given as goal

abbrev pub invariant-loop-i : goal.invariant-loop-i
invariant-loop-i g l =
    FoundSoFar l.wanted (each_faults (g.J.Judge.faults l.of) 0 (map view l.values)) (each_faults (g.J.Judge.faults l.of) l.i (map view (drop l.i l.values))) (pairs_of l.found.items)
