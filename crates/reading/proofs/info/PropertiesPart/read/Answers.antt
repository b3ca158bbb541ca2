use Rattle.std.proofs.Common.{[], sym, ap, ◌∙◌}
use Rattle.serde_json.specs.View.{view}
use Rattle.reading.proofs.Properties.{properties_refused}
use Rattle.reading.proofs.info.PropertiesPart.read.Goals as goal

pub returns-in-Err-clause-err : goal.returns-in-Err-clause-err
returns-in-Err-clause-err c =
    properties_refused (view c.args.value.now) c.in-Err.fault c.here.result (sym c.is_null.ensures ∙ c.if-is_null.false) c.in-Err.ensures.fault (c.here.ensures ∙ ap (λ k. record { path = []; kind = k }) c.kind_of.ensures)
