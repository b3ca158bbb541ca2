use Rattle.std.proofs.Common.{is_some, string_bytes}
use Rattle.serde_json.specs.View.{members_view}
use Rattle.std.specs.BTreeMap.{get_by_text}
use Rattle.attributes.proofs.Printing.{IsBehind}
use Rattle.attributes.proofs.back.members_text.Given as goal

abbrev pub invariant-loop-name : goal.invariant-loop-name
invariant-loop-name l =
    IsBehind (λ name. is_some (get_by_text l.numbers name)) l.scales (string_bytes l.text) l.later (members_view l.name-iterator) (members_view l.fn.members.entries)
