use Rattle.std.proofs.Common.{codes, refl, rules}
use Rattle.serde_json.specs.View.{view}
use Rattle.faults.specs.Path.{name}
use Rattle.reading.specs.Fault.{LeastOrWant}
use Rattle.reading.specs.Info.{info_faults}
use Rattle.reading.proofs.Least.{first_of, after_under}
use Rattle.reading.proofs.info.read_info.Goals as goal

pub returns-in_err-id-clause-err : goal.returns-in_err-id-clause-err
returns-in_err-id-clause-err c =
    let part : LeastOrWant (info_faults (view c.args.value.now)) c.in_err-id.field-0.0 = first_of (name (codes "id")) _ _ c.in_err-id.field-0.0 c.in_err-id.ensures.err (after_under _ (name (codes "properties")) _ refl) in
    search (rules, part)
