use Rattle.std.proofs.Common.{◌≡◌, ◌∷◌, ◌∙◌, [], true, IfOk, ap, subst, sym, arith}
use Rattle.chains.specs.Pieces.{open_pieces}
use Rattle.arcs.specs.Pieces.{piece_along}
use Rattle.arcs.specs.Among.{among}
use Rattle.lines.proofs.Dropping.{item_at}
use Rattle.chains.proofs.LoopStops.{none_to_cut, ring_met, ring_unmet}
use Rattle.chains.proofs.cutting.ring_cut.Goals as goal

pub returns-then-at-ring : goal.returns-then-at-ring
returns-then-at-ring c =
    subst (λ w. IfOk c.free_piece.result (λ v. v.items ≡ w))
    (ap (λ w. piece_along true w ∷ []) c.new.ensures.items ∙ none_to_cut c.args.index.now c.args.ring.now c.index_of_start-at.result c.index_of_start-at.ensures c.if-at-ring.true)
    c.free_piece.ensures

pub returns-then-is_stop : goal.returns-then-is_stop
returns-then-is_stop c =
    subst (λ w. IfOk c.cut_inside.result (λ v. v.items ≡ w))
    (ap (open_pieces (among c.args.index.now)) (c.deref.ensures.value ∙ c.in_ok-closed.ensures)
    ∙ ring_met c.args.index.now c.args.ring.now c.index_of_start-at.result c.index-ring-at.result c.index_of_start-at.ensures
    (item_at c.args.ring.now c.index_of_start-at.result c.index-ring-at.result (omega (arith, c.if-at-ring.false)) c.index-ring-at.is)
    (sym c.is_stop.ensures ∙ c.if-is_stop.true))
    c.cut_inside.ensures

pub returns-else-is_stop : goal.returns-else-is_stop
returns-else-is_stop c =
    subst (λ w. IfOk c.free_piece-else-is_stop.result (λ v. v.items ≡ w))
    (ap (λ w. piece_along true w ∷ []) c.in_ok-closed.ensures
    ∙ ring_unmet c.args.index.now c.args.ring.now c.index_of_start-at.result c.index-ring-at.result c.index_of_start-at.ensures
    (item_at c.args.ring.now c.index_of_start-at.result c.index-ring-at.result (omega (arith, c.if-at-ring.false)) c.index-ring-at.is)
    (sym c.is_stop.ensures ∙ c.if-is_stop.false))
    c.free_piece-else-is_stop.ensures
