use Rattle.std.proofs.Common.{codes, string_bytes, subst}
use Rattle.sinks.specs.Writes.{TookAll}
use Rattle.decimals.specs.Topology.DecimalTransform.{DecimalTransformParts}
use Rattle.decimals.specs.Topology.TopologyText.{transform_member}
use Rattle.decimals.proofs.TopologyLemmas.Whole.{both_pieces, member_is}
use Rattle.decimals.proofs.topology.quantized_writer.write_numerals.Goals as goal

pub returns : goal.returns
returns g c =
    let d = c.transform.inside in
    let sx = string_bytes d.scale.first in
    let sy = string_bytes d.scale.second in
    let tx = string_bytes d.translate.first in
    let ty = string_bytes d.translate.second in
    subst (λ (v : DecimalTransformParts). TookAll (g.W.Sink.seen c.args.out.now) (g.W.Sink.seen c.write_pair-2.new.out) (transform_member v.scale_x v.scale_y v.translate_x v.translate_y)) c.transform.view_is
    (both_pieces (codes "\"transform\":{\"scale\":[") sx (codes ",") sy (codes "]") _ _ c.in_ok-write_pair.ensures c.in_ok-write_pair-2.ensures (member_is sx sy tx ty))
