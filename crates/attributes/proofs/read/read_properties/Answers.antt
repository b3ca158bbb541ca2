use Rattle.attributes.specs.Attributes.{properties_members, seen_member}
use Rattle.serde_json.specs.View.{members_view}
use Rattle.attributes.proofs.Judging.{refused}
use Rattle.attributes.proofs.read.read_properties.Goals as goal

pub returns-clause-refused : goal.returns-clause-refused
returns-clause-refused c e named none =
    let p = seen_member c.args.properties in
    let is = rw c.in-Some.is at c.in_ok-made.ensures.made in
    refused c.args.rules.now p (properties_members p) (members_view c.in-Some.members.entries) named is (c.make_properties.ensures.refused e) none
