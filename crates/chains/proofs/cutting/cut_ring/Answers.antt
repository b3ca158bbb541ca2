use Rattle.std.proofs.Common.{map, not, sym, subst, ap, ◌∙◌}
use Rattle.std.specs.List.{list_any}
use Rattle.arcs.specs.Among.{among}
use Rattle.chains.specs.Pieces.{started_ring, parts_round, ring_pieces}
use Rattle.arcs.specs.Pieces.{used, ArePieces}
use Rattle.chains.proofs.Oriented.{used_all}
use Rattle.chains.proofs.Cuts.{ring_is_cut}
use Rattle.chains.proofs.TableOfMap.{ring_good}
use Rattle.chains.proofs.cutting.cut_ring.Goals as goal

pub returns-clause-stitch : goal.returns-clause-stitch
returns-clause-stitch c = λ g s l i.
    let stop = among c.args.index.now in
    let r = c.args.ring.now.positions in
    ring_is_cut g s c.args.index.now i r l (map used c.in_ok-pieces.pieces.items)
    (used_all (not (list_any stop r)) (parts_round stop r (started_ring stop r)) c.in_ok-pieces.pieces.items (c.in_ok-pieces.ensures ∙ ap (ring_pieces c.args.index.now) c.vertices.ensures.vertices))

pub returns-clause-pieces : goal.returns-clause-pieces
returns-clause-pieces c = λ g s l i. subst (ArePieces g) (sym (c.in_ok-pieces.ensures ∙ ap (ring_pieces c.args.index.now) c.vertices.ensures.vertices)) (ring_good g s c.args.index.now i c.args.ring.now.positions l)
