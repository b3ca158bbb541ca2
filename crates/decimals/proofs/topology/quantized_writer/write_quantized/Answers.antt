use Rattle.std.proofs.Common.{codes}
use Rattle.decimals.proofs.TopologyLemmas.Whole.{content_pieces}
use Rattle.decimals.proofs.topology.quantized_writer.write_quantized.Goals as goal

pub returns-clause-text : goal.returns-clause-text
returns-clause-text g c =
    content_pieces (codes "\"objects\":{") _ (codes "},\"arcs\":[") _ (codes "]}")
    (rw (c.as_slice.ensures.value, c.in_ok-layers.ensures) at c.in_ok-write_objects.ensures) (rw c.arcs.ensures.arcs at c.in_ok-write_arcs.ensures.text) c.in_ok-write.ensures.whole
