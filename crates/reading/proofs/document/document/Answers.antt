use Rattle.std.proofs.Common.{ap}
use Rattle.serde_json.specs.View.{view}
use Rattle.faults.specs.declared.fault.FaultKind.TheVariants.{NotJson}
use Rattle.reading.specs.Text.{text_faults}
use Rattle.reading.proofs.Least.{only_of}
use Rattle.reading.proofs.Texts.{document_is, document_none}
use Rattle.reading.proofs.document.document.Goals as goal

pub returns-in-Ok-clause-ok : goal.returns-in-Ok-clause-ok
returns-in-Ok-clause-ok c = document_is c.args.bytes.now (view c.in-Ok.value) c.in-Ok.ensures.ok.0 c.in-Ok.ensures.ok.1

pub returns-in_default-clause-err : goal.returns-in_default-clause-err
returns-in_default-clause-err c = λ of.
    only_of NotJson _ c.here-in_default.result c.here-in_default.ensures (ap (text_faults of) (document_none c.args.bytes.now (c.in-Err.ensures.err (λ memory. c.in_default.not-Memory (c.classify.ensures.memory.1 memory)))))
