use Rattle.std.proofs.Common.{◌≡◌, [], ◌∷◌, ◌++◌, string_bytes, string_cmp, sym, ap, ◌∙◌, subst, append_assoc}
use Rattle.std.specs.List.Sorted.{IsStrictlySortedBy}
use Rattle.std.specs.Map.{keys_of}
use Rattle.serde_json.specs.View.{view, members_view}
use Rattle.serde_json.proofs.Views.{Entry}
use Rattle.faults.specs.Path.{name}
use Rattle.faults.specs.Fault.{Lifted}
use Rattle.reading.specs.Fault.{LeastOrWant, under}
use Rattle.reading.specs.Parts.{each_member_faults}
use Rattle.reading.proofs.Entries.{member_lifted, MeansAfter, members_more, members_all, names_once}
use Rattle.reading.proofs.part.read_each_member.Goals as goal

pub loop-key-preserved : goal.loop-key-preserved
loop-key-preserved g c =
    let of = g.P.Part.faults c.args.part.now in
    let l = c.loop-key in
    let e : Entry = (c.in-Some.key.now, c.in-Some.value.now) in
    let left = c.next.new.self in (
      l.invariant.0 ++ e ∷ [],
      l.invariant.1 ∙ ap (λ es. l.invariant.0 ++ es) c.in-Some.ensures.steps ∙ sym (append_assoc l.invariant.0 (e ∷ []) left),
      l.invariant.2 ∙ ap (λ es. each_member_faults of (members_view es)) c.in-Some.ensures.steps ∙ ap (λ ps. under (name (string_bytes e.0)) ps ++ each_member_faults of (members_view left)) c.in-Ok.ensures.ok.0,
      members_more (g.P.Part.means c.args.part.now) (string_bytes e.0) (view e.1) (members_view left) (members_view c.args.members.now.entries) l.found.items _ c.in_ok-keep_named-in-Ok.ensures.ok.0 c.in-Ok.made c.in_ok-keep_named-in-Ok.ensures.ok.2 (c.in_ok-keep_named-in-Ok.ensures.ok.1 ∙ c.as_str.ensures.value) c.in-Ok.ensures.ok.1
          (subst (λ es. MeansAfter (g.P.Part.means c.args.part.now) (members_view c.args.members.now.entries) (members_view es) l.found.items) c.in-Some.ensures.steps l.invariant.3),
    )

pub returns-in-Err-clause-err : goal.returns-in-Err-clause-err
returns-in-Err-clause-err g c =
    let of = g.P.Part.faults c.args.part.now in
    let l = c.loop-key in
    let e : Entry = (c.in-Some.key.now, c.in-Some.value.now) in
    let left = c.next.new.self in
    let all : c.args.members.now.entries ≡ l.invariant.0 ++ e ∷ left = l.invariant.1 ∙ ap (λ es. l.invariant.0 ++ es) c.in-Some.ensures.steps in
    let ordered = subst (λ es. IsStrictlySortedBy string_cmp (keys_of es)) all c.iter-key-items.ensures.ordered in
    let up = subst (λ s. Lifted (name s) c.in-Err.fault c.under_name.result) c.as_str-in-Err.ensures.value c.under_name.ensures in
    subst (λ ps. LeastOrWant ps c.under_name.result) (sym (l.invariant.2 ∙ ap (λ es. each_member_faults of (members_view es)) c.in-Some.ensures.steps))
    (member_lifted of l.invariant.0 e left c.in-Err.fault c.under_name.result ordered c.in-Err.ensures.err up)

pub returns-clause-made : goal.returns-clause-made
returns-clause-made g c =
    let R = g.P.Part.means c.args.part.now in
    let whole = members_view c.args.members.now.entries in
    members_all R whole c.loop-key.found.items (subst (λ es. MeansAfter R whole (members_view es) c.loop-key.found.items) c.in-None.ensures.steps.0 c.loop-key.invariant.3)

pub returns-clause-distinct : goal.returns-clause-distinct
returns-clause-distinct g c =
    let R = g.P.Part.means c.args.part.now in
    let whole = members_view c.args.members.now.entries in
    let mean = members_all R whole c.loop-key.found.items (subst (λ es. MeansAfter R whole (members_view es) c.loop-key.found.items) c.in-None.ensures.steps.0 c.loop-key.invariant.3) in
    names_once R c.args.members.now.entries c.loop-key.found.items c.iter-key-items.ensures.ordered mean
