use Rattle.std.proofs.Common.{◌++◌, ◌∙◌, ap}
use Rattle.theory.specs.Lists.{gathered}
use Rattle.chains.specs.ManyTables.{all_as_map, all_marked_visits, piece_ends}
use Rattle.chains.specs.Noted.{visits_recorded}
use Rattle.chains.proofs.ManyAlike.{all_alike, all_stay_whole, index_of_all}
use Rattle.chains.proofs.Same.{same_equal, same_trans}
use Rattle.chains.proofs.TablesAsMap.{index_alike}
use Rattle.chains.proofs.visits.VisitIndex.over_pieces.Goals as goal

pub returns-clause-arcs : goal.returns-clause-arcs
returns-clause-arcs c = λ maps tables e are.
    let ps = c.args.pieces.now in
    let marks = c.in_ok-marks.marks.items in
    index_of_all maps tables are ps e marks c.in_ok-marks.ensures _ _ (visits_recorded c.see_pieces.new.self)
    (c.in_ok-see_pieces.ensures.ends ∙ ap (λ w. w ++ gathered piece_ends ps) c.in_ok-seen.ensures.ends)
    (same_trans c.in_ok-see_pieces.ensures.visits (same_equal (ap (λ w. w ++ all_marked_visits c.deref-2.result.now ps) c.in_ok-seen.ensures.visits ∙ ap (λ w. all_marked_visits w ps) c.deref-2.ensures.value)))
    c.in_ok-index.ensures

pub returns-clause-union : goal.returns-clause-union
returns-clause-union c = λ maps tables u e are un.
    index_alike (all_as_map tables) u (all_alike maps tables are u un) _ (returns-clause-arcs c maps tables e are)

pub returns-clause-whole : goal.returns-clause-whole
returns-clause-whole c = λ maps tables e are.
    let ps = c.args.pieces.now in
    let marks = c.in_ok-marks.marks.items in
    all_stay_whole maps tables are ps e marks c.in_ok-marks.ensures _ _ (visits_recorded c.see_pieces.new.self)
    (c.in_ok-see_pieces.ensures.ends ∙ ap (λ w. w ++ gathered piece_ends ps) c.in_ok-seen.ensures.ends)
    (same_trans c.in_ok-see_pieces.ensures.visits (same_equal (ap (λ w. w ++ all_marked_visits c.deref-2.result.now ps) c.in_ok-seen.ensures.visits ∙ ap (λ w. all_marked_visits w ps) c.deref-2.ensures.value)))
    c.in_ok-index.ensures
