use Rattle.std.proofs.Common.{◌≡◌, ◌++◌, ◌∙◌, ◌∷◌, ◌+◌, ap, sym, drop, append_assoc}
use Rattle.theory.specs.Lists.{gathered}
use Rattle.lines.proofs.Dropping.{drop_item}
use Rattle.chains.specs.ManyTables.{all_marked_visits, marked_visits, piece_ends}
use Rattle.chains.specs.Noted.{visits_recorded}
use Rattle.chains.proofs.Same.{same_step}
use Rattle.chains.proofs.visits.VisitsSeen.see_pieces.Goals as goal

pub loop-piece-preserved : goal.loop-piece-preserved
loop-piece-preserved c =
    let ps = c.args.pieces.now in
    let i = c.loop-piece.piece-index in
    let p = c.piece-item.result in
    let recorded = visits_recorded c.loop-piece.self in
    let ends = c.loop-piece.self.ends.items in
    let left = c.loop-piece.left.now in
    let step : drop i ps ≡ p ∷ drop (i + 1) ps = drop_item ps i p c.loop-piece-test.true c.piece-item.is in
    record {
      ends =
          ap (λ w. w ++ gathered piece_ends (drop (i + 1) ps)) c.in_ok-see_piece.ensures.ends
          ∙ append_assoc ends (piece_ends p) (gathered piece_ends (drop (i + 1) ps))
          ∙ ap (λ w. ends ++ gathered piece_ends w) (sym step)
          ∙ c.loop-piece.invariant.ends;
      visits =
          same_step _ c.in_ok-see_piece.ensures.visits c.loop-piece.invariant.visits
          (ap (λ w. recorded ++ all_marked_visits left w) step
          ∙ (λ j. recorded ++ (marked_visits (sym c.first_mark-marked.ensures.first j) p ++ all_marked_visits (sym c.first_mark-marked.ensures.others j) (drop (i + 1) ps)))
          ∙ sym (append_assoc recorded (marked_visits _ p) (all_marked_visits _ (drop (i + 1) ps))));
    }
