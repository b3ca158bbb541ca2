use Rattle.std.proofs.Common.{◌≡◌, List, ◌++◌}
use Rattle.serde_json.specs.View.{members_view}
use Rattle.serde_json.proofs.Views.{Entry}
use Rattle.reading.specs.Parts.{each_member_faults}
use Rattle.reading.proofs.Entries.{MeansAfter}
use Rattle.reading.proofs.part.read_each_member.Given as goal

abbrev pub invariant-loop-key : goal.invariant-loop-key
invariant-loop-key g l =
    (done : List Entry) × (l.members.entries ≡ done ++ l.key-iterator)
    × (each_member_faults (g.P.Part.faults l.part) (members_view l.members.entries) ≡ each_member_faults (g.P.Part.faults l.part) (members_view l.key-iterator))
    × MeansAfter (g.P.Part.means l.part) (members_view l.members.entries) (members_view l.key-iterator) l.found.items
