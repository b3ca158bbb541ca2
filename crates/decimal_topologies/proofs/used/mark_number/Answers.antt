use Rattle.json.specs.Value.{value_view}
use Rattle.decimal_topologies.proofs.Marked.{marked_named, marked_unnamed}
use Rattle.decimal_topologies.proofs.used.mark_number.Goals as goal

pub returns-in-Ok : goal.returns-in-Ok
returns-in-Ok c = marked_named c.args.used.now (value_view c.args.value.now) c.ref_of.result c.in-Ok.arc c.ref_of.ensures c.in-Ok.is

pub returns-in-Err : goal.returns-in-Err
returns-in-Err c = marked_unnamed c.args.used.now (value_view c.args.value.now) c.ref_of.result _ c.ref_of.ensures c.in-Err.is
