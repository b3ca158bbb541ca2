use Rattle.std.proofs.Common.{ap}
use Rattle.topo_io.proofs.SinkLemmas.{appended}
use Rattle.noshinka.proofs.questions.text_of_keyed_lists.Goals as goal

pub returns-in-Ok : goal.returns-in-Ok
returns-in-Ok c = appended _ _ _ _ (ap (λ s. s.bytes) c.new-kept.ensures) c.into_bytes.ensures c.in-Ok.ensures.whole.bytes
