use Rattle.serde_json.specs.View.{members_view}
use Rattle.reading.specs.Parts.{each_member_faults}
use Rattle.reading.specs.FaultLists.Found.{pairs_of}
use Rattle.reading.proofs.FaultListsLemmas.Kept.{FoundSoFar}
use Rattle.reading.proofs.fault_lists.members.judge_each_member.Given as goal

abbrev pub invariant-loop-key : goal.invariant-loop-key
invariant-loop-key g l =
    FoundSoFar l.wanted (each_member_faults (g.J.Judge.faults l.of) (members_view l.members.entries)) (each_member_faults (g.J.Judge.faults l.of) (members_view l.key-iterator)) (pairs_of l.found.items)
