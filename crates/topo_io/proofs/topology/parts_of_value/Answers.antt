use Rattle.std.proofs.Common.{◌∙◌, ap}
use Rattle.serde_json.specs.Read.{read}
use Rattle.topo_io.proofs.Rewritten.{said_again}
use Rattle.topo_io.proofs.topology.parts_of_value.Goals as goal

pub returns-in-Ok : goal.returns-in-Ok
returns-in-Ok c = λ bytes e.
    said_again bytes c.as_bytes.result.now _ c.in-Ok.parts.grid c.in-Ok.parts.arcs.items c.in-Ok.parts.layers.items e
    (λ n. ap read c.as_bytes.ensures.value ∙ c.in_ok-text.ensures.reads_back n) c.in-Ok.ensures.ok
