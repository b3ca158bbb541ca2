use Rattle.std.proofs.Common.{◌≡◌, Some, subst, sym, ap, ◌∙◌}
use Rattle.theory.proofs.ListsOfLists.{get_has}
use Rattle.arcs.specs.Among.{among}
use Rattle.chains.specs.ArcPieces.{pieces_at, AreCutAt}
use Rattle.chains.specs.OfArcs.{pieces_if, ArePiecesUnder}
use Rattle.arcs.specs.Table.{free_at, is_loop_if}
use Rattle.chains.proofs.ArcParts.{are_cut}
use Rattle.chains.proofs.ArcsCut.{part_pieces}
use Rattle.chains.proofs.arc_cutting.cut_arc.Goals as goal

pub returns-in_ok-pieces-in-Some-clause-computed : goal.returns-in_ok-pieces-in-Some-clause-computed
returns-in_ok-pieces-in-Some-clause-computed c =
    let js = c.args.stops.now.keys in
    let t = c.args.table.now in
    let k = sym c.in-Some.ensures in
    c.in_ok-pieces-in-Some.ensures ∙ ap (λ b. pieces_at (among js) b c.in-Some.arc.now) (c.is_free.ensures ∙ ap (is_loop_if t.loops) k) ∙ ap (pieces_if js t.loops) (sym k)

pub returns-in_ok-pieces-in-Some-clause-cut : goal.returns-in_ok-pieces-in-Some-clause-cut
returns-in_ok-pieces-in-Some-clause-cut c = λ d e.
    let k : Some c.in-Some.arc.now ≡ Some d = c.in-Some.ensures ∙ e in
    let same : c.in-Some.arc.now ≡ d = cc in
    let stop = among c.args.stops.now.keys in
    let free = free_at c.args.table.now c.args.number in
    subst (AreCutAt stop free d) (sym (c.in_ok-pieces-in-Some.ensures ∙ (λ j. pieces_at stop (c.is_free.ensures j) (same j)))) (are_cut stop free d)

pub returns-in_ok-pieces-in-Some-clause-pieces : goal.returns-in_ok-pieces-in-Some-clause-pieces
returns-in_ok-pieces-in-Some-clause-pieces c = λ g u d sg su part table i e.
    let js = c.args.stops.now.keys in
    let t = c.args.table.now in
    let k : Some c.in-Some.arc.now ≡ Some d = c.in-Some.ensures ∙ e in
    let same : c.in-Some.arc.now ≡ d = cc in
    subst (ArePiecesUnder g u d)
    (sym (c.in_ok-pieces-in-Some.ensures
    ∙ (λ j. pieces_at (among js) (c.is_free.ensures j) (same j))
    ∙ ap (λ b. pieces_at (among js) b d) (ap (is_loop_if t.loops) e)))
    (part_pieces g u sg su part t table js i d (get_has t.arcs c.args.number d e))
