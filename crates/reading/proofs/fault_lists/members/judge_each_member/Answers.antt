use Rattle.std.proofs.Common.{◌≡◌, false, ◌++◌, subst}
use Rattle.serde_json.specs.View.{members_view}
use Rattle.serde_json.proofs.Views.{Entry}
use Rattle.faults.specs.Path.{name}
use Rattle.reading.specs.Fault.{under}
use Rattle.reading.specs.Parts.{each_member_faults}
use Rattle.reading.specs.FaultLists.Found.{is_full, pairs_of}
use Rattle.reading.proofs.FaultListsLemmas.Wholes.{members_next}
use Rattle.reading.proofs.fault_lists.members.judge_each_member.Goals as goal

pub loop-key-preserved : goal.loop-key-preserved
loop-key-preserved g c =
    let of = g.J.Judge.faults c.args.of.now in
    let e : Entry = (c.in-Some.key.now, c.in-Some.value.now) in
    let found = pairs_of c.loop-key.found.items in
    let new = pairs_of c.in_ok-part.part.items in
    let now = pairs_of c.put_under_name.new.found.items in
    let is = subst (λ s. now ≡ found ++ under (name s) new) c.as_str.ensures.value c.in_ok-put_under_name.ensures in
    let more : is_full c.args.wanted now ≡ false = cc in
    members_next c.args.wanted of (each_member_faults of (members_view c.args.members.now.entries)) e _ c.next.new.self found new now c.in-Some.ensures.steps c.loop-key.invariant c.in_ok-part.ensures is more
