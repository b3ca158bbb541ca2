use Rattle.topo_io.proofs.ValidTextsMeanAMap.{said_ids}
use Rattle.texts_tests.proofs.topo_io_tests.whole_texts.is_taken.Goals as goal

pub take-requires : goal.take-requires
take-requires c = said_ids c.as_bytes.result.now c.in-Ok.parts.grid c.in-Ok.parts.arcs.items c.in-Ok.parts.layers.items c.in-Ok.ensures.ok
