use Rattle.serde_json.specs.View.{view}
use Rattle.reading.proofs.Members.{option_refused}
use Rattle.reading.proofs.part.read_option.Goals as goal

pub returns-in-Err-clause-err : goal.returns-in-Err-clause-err
returns-in-Err-clause-err g c =
    option_refused c.args.member.now (g.P.Part.faults c.args.part.now) (view c.args.value.now) (view c.in-Some.found.now) c.in-Err.fault c.under_name.result c.in-Some.ensures c.in-Err.ensures.err c.under_name.ensures
