use Rattle.std.proofs.Common.{◌≡◌, ◌∙◌, Some, bytes_eq, subst}
use Rattle.std.specs.Prelude.{if◌then◌else◌}
use Rattle.serde_json.specs.View.{view}
use Rattle.attributes.specs.Columns.{column_at, with_value}
use Rattle.attributes.proofs.Gathering.{ArePassed, member_more, none_passed}
use Rattle.attributes.proofs.columns.Columns.add_members.Goals as goal

pub loop-name-init : goal.loop-name-init
loop-name-init c =
    none_passed (column_at c.args.self.now) c.args.members.now.entries c.into_iter-name-iterator.result (c.into_iter-name-iterator.ensures.into_iter_gives ∙ c.iter-name-items.ensures.rest) c.iter-name-items.ensures.ordered

pub loop-name-preserved : goal.loop-name-preserved
loop-name-preserved c =
    let old = column_at c.args.self.now in
    let now = column_at c.loop-name.self in
    let d = view c.in-Some.value.now in
    member_more old now (column_at c.add_value.new.self) c.args.members.now.entries c.next.new.self (c.in-Some.name.now, c.in-Some.value.now)
    (subst (ArePassed old now c.args.members.now.entries) c.in-Some.ensures.steps c.loop-name.invariant)
    (λ q. subst (λ k. column_at c.add_value.new.self q ≡ (if bytes_eq k q then with_value (Some d) (now q) else now q)) c.deref.ensures (c.in_ok-add_value.ensures q))
