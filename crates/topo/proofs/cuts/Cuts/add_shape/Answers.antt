use Rattle.std.proofs.lemmas.Result.{on_ok_weaker}
use Rattle.chains.specs.Pieces.{line_pieces, ring_pieces}
use Rattle.topo.specs.Building.{count_of}
use Rattle.topo.proofs.SeenForms.{both_seen}
use Rattle.topo.proofs.cuts.Cuts.add_shape.Goals as goal

pub returns-clause-pieces : goal.returns-clause-pieces
returns-clause-pieces c =
    on_ok_weaker c.add_each-2.result
    (both_seen (line_pieces c.args.index.now) (ring_pieces c.args.index.now) c.args.shape.now _ _ _ _ _ c.lines.ensures c.rings.ensures c.in_ok-add_each.ensures.pieces)
    c.add_each-2.ensures.pieces

pub returns-clause-counts : goal.returns-clause-counts
returns-clause-counts c =
    on_ok_weaker c.add_each-2.result
    (both_seen (count_of (line_pieces c.args.index.now)) (count_of (ring_pieces c.args.index.now)) c.args.shape.now _ _ _ _ _ c.lines.ensures c.rings.ensures c.in_ok-add_each.ensures.counts)
    c.add_each-2.ensures.counts
