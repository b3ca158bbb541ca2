use Rattle.serde_json.specs.View.{view}
use Rattle.reading.proofs.Members.{member_refused, member_missing}
use Rattle.reading.proofs.part.read_member.Goals as goal

pub returns-in-None-clause-err : goal.returns-in-None-clause-err
returns-in-None-clause-err g c =
    member_missing c.args.member.now (g.P.Part.faults c.args.part.now) (view c.args.value.now) c.here.result c.under_name.result c.in-None.ensures c.here.ensures c.under_name.ensures

pub returns-in-Err-clause-err : goal.returns-in-Err-clause-err
returns-in-Err-clause-err g c =
    member_refused c.args.member.now (g.P.Part.faults c.args.part.now) (view c.args.value.now) (view c.in-Some.found.now) c.in-Err.fault c.under_name-in-Err.result c.in-Some.ensures c.in-Err.ensures.err c.under_name-in-Err.ensures
