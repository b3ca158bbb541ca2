use Rattle.json.specs.Value.{value_view}
use Rattle.decimal_faults.proofs.Faulty.{faulty_member}
use Rattle.decimal_faults.proofs.members.make_member.Goals as goal

pub returns-in-Some-clause-refused : goal.returns-in-Some-clause-refused
returns-in-Some-clause-refused g c = λ e fixing.
    faulty_member c.args.member.now (g.P.Part.faults c.args.of.now fixing) (value_view c.args.value.now) (value_view c.in-Some.there.now) c.in-Some.ensures (c.make.ensures.refused e fixing)
