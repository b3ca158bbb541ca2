use Rattle.std.proofs.Common.{◌≡◌, ◌∙◌, ap, sym, codes, string_bytes, to_z, of_z, w64, arith}
use Rattle.std.proofs.lemmas.Int.{ints}
use Rattle.sinks.specs.Texts.{option_text}
use Rattle.decimals.specs.Topology.TopologyText.{bbox_text}
use Rattle.decimals.proofs.TopologyLemmas.Whole.{both_pieces, bbox_is}
use Rattle.decimals.proofs.topology.writer.write_bbox.Goals as goal

pub returns-clause-text : goal.returns-clause-text
returns-clause-text g c =
    let west : to_z w64 (of_z w64 c.in-Some.west) ≡ c.in-Some.west = omega (arith, ints) in
    let south : to_z w64 (of_z w64 c.in-Some.south) ≡ c.in-Some.south = omega (arith, ints) in
    let east : to_z w64 (of_z w64 c.in-Some.east) ≡ c.in-Some.east = omega (arith, ints) in
    let north : to_z w64 (of_z w64 c.in-Some.north) ≡ c.in-Some.north = omega (arith, ints) in
    let least = c.in_ok-least.least in
    let greatest = c.in_ok-greatest.greatest in
    both_pieces (codes "\"bbox\":[") (string_bytes least.first) (codes ",") (string_bytes least.second) (codes ",") _ _ c.in_ok-write_pair.ensures c.in_ok-write_pair-2.ensures
    (bbox_is c.args.unit.now (c.in-Some.west, c.in-Some.south, c.in-Some.east, c.in-Some.north) (string_bytes least.first) (string_bytes least.second)
    (string_bytes greatest.first) (string_bytes greatest.second) (rw west at c.in_ok-least.ensures.first) (rw south at c.in_ok-least.ensures.second)
    (rw east at c.in_ok-greatest.ensures.first) (rw north at c.in_ok-greatest.ensures.second)
    ∙ sym (ap (option_text (bbox_text c.args.unit.now)) c.in-Some.is))
