use Rattle.std.proofs.Common.{◌≡◌, codes, string_bytes, to_z, of_z, w64, arith}
use Rattle.std.proofs.lemmas.Int.{ints}
use Rattle.decimals.proofs.TopologyLemmas.Whole.{both_pieces, transform_is}
use Rattle.decimals.proofs.topology.writer.write_transform.Goals as goal

pub returns-clause-text : goal.returns-clause-text
returns-clause-text g c =
    let width : to_z w64 (of_z w64 c.scale-scale.result.0) ≡ c.scale-scale.result.0 = omega (arith, ints) in
    let height : to_z w64 (of_z w64 c.scale-scale.result.1) ≡ c.scale-scale.result.1 = omega (arith, ints) in
    let x : to_z w64 (of_z w64 c.translate-translate.result.0) ≡ c.translate-translate.result.0 = omega (arith, ints) in
    let y : to_z w64 (of_z w64 c.translate-translate.result.1) ≡ c.translate-translate.result.1 = omega (arith, ints) in
    let size = c.in_ok-size.size in
    let place = c.in_ok-place.place in
    both_pieces (codes "\"transform\":{\"scale\":[") (string_bytes size.first) (codes ",") (string_bytes size.second) (codes "]") _ _ c.in_ok-write_pair.ensures c.in_ok-write_pair-2.ensures
    (transform_is c.args.unit.now c.args.grid.now c.scale-scale.result c.translate-translate.result (string_bytes size.first) (string_bytes size.second)
    (string_bytes place.first) (string_bytes place.second) c.scale-scale.ensures.value c.translate-translate.ensures.value
    (rw width at c.in_ok-size.ensures.first) (rw height at c.in_ok-size.ensures.second) (rw x at c.in_ok-place.ensures.first) (rw y at c.in_ok-place.ensures.second))
