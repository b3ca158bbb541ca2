use Rattle.std.proofs.Common.{◌≡◌, Err, ap}
use Rattle.attributes.specs.Attributes.{id_reals, id_source, members_or_none, seen_member}
use Rattle.attributes.specs.Refusals.{named_id_faults}
use Rattle.attributes.specs.Values.{members_reals}
use Rattle.attributes.specs.declared.info.Unread.TheVariants.{Faulty}
use Rattle.attributes.proofs.Judging.{none_of_either, none_of_properties, total}
use Rattle.attributes.proofs.read.read_attributes.Goals as goal

pub returns-in-Err-clause-refused : goal.returns-in-Err-clause-refused
returns-in-Err-clause-refused c e none =
    let r = c.args.rules.now in
    let p = seen_member c.args.properties in
    let same : c.in-Err.error ≡ Faulty = cc in
    c.in-Err.ensures.refused (ap Err same) (named_id_faults r.id r.reals p) (none_of_properties r (seen_member c.args.id) p none)

pub returns-in-Ok-clause-made : goal.returns-in-Ok-clause-made
returns-in-Ok-clause-made c =
    let r = c.args.rules.now in
    let i = seen_member c.args.id in
    let p = seen_member c.args.properties in
    record {
      id = c.in_ok-id.ensures.made;
      properties = c.in-Ok.ensures.made;
      reals = total c.read_properties.new.reals c.read_id.new.reals (id_reals r.reals (id_source r.id i p)) (members_reals r.reals r.scales.now (members_or_none p)) c.in_ok-id.ensures.reals c.in-Ok.ensures.reals;
    }

pub returns-in-Ok-clause-ok : goal.returns-in-Ok-clause-ok
returns-in-Ok-clause-ok c = none_of_either c.args.rules.now (seen_member c.args.id) (seen_member c.args.properties) c.in_ok-id.ensures.ok c.in-Ok.ensures.ok
