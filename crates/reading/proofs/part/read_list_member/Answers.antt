use Rattle.std.proofs.Common.{sym, subst}
use Rattle.std.specs.List.{AllZip}
use Rattle.serde_json.specs.View.{view}
use Rattle.reading.specs.Info.{member_or_null}
use Rattle.reading.specs.Parts.{elements}
use Rattle.reading.proofs.Members.{member_there}
use Rattle.reading.proofs.part.read_list_member.Goals as goal

pub returns-in-Ok-clause-made : goal.returns-in-Ok-clause-made
returns-in-Ok-clause-made g c =
    let R = g.P.Part.means c.args.of in
    let made = c.in-Ok.ensures.made in
    subst (AllZip R (elements (member_or_null c.args.member.now (view c.args.value.now)))) (sym c.into_vec.ensures)
    (subst (λ e. AllZip R (elements e) c.in-Ok.items) (sym (member_there c.args.member.now (view c.args.value.now) made.0 made.1)) made.2)
