use Rattle.std.proofs.Common.{◌≡◌, ap, sym, ◌∙◌, refl, subst, map, Some, None}
use Rattle.std.specs.List.{position}
use Rattle.theory.specs.Lists.{Has}
use Rattle.theory.specs.ArcNumbers.{along}
use Rattle.theory.proofs.ListsOfLists.{get_has}
use Rattle.arcs.specs.Pieces.{used}
use Rattle.arcs.specs.Stored.{positions_of}
use Rattle.arcs.specs.Table.{same_list}
use Rattle.arcs.proofs.Places.{along_found, found_at, not_found}
use Rattle.arcs.proofs.table.ArcTable.find.Goals as goal

pub returns-in-None-clause-found : goal.returns-in-None-clause-found
returns-in-None-clause-found c =
    let l = map positions_of c.self.inside.arcs in
    let q = c.args.piece.now.chain in
    let e : None ≡ position (same_list q) l = c.in-None.ensures c.self.invariant.rising ∙ ap (λ w. position (same_list w) l) c.items.ensures in
    ((λ k. absurd cc), (λ h. absurd (not_found q l e (subst (Has q) (sym (ap (λ w. w.arcs) c.self.view_is)) h))))

pub returns-in-Some-clause-along : goal.returns-in-Some-clause-along
returns-in-Some-clause-along c =
    subst (λ w. along w (record { arc = c.in-Some.arc; reversed = c.reversed.result }) ≡ Some (used c.args.piece.now)) (ap (λ w. w.arcs) c.self.view_is)
    (along_found (map positions_of c.self.inside.arcs) c.args.piece.now c.items.result.now c.in-Some.arc c.reversed.result
    (c.in-Some.ensures c.self.invariant.rising) c.items.ensures c.reversed.ensures)

pub returns-in-Some-clause-found : goal.returns-in-Some-clause-found
returns-in-Some-clause-found c =
    let l = map positions_of c.self.inside.arcs in
    let q = c.args.piece.now.chain in
    let e : Some c.in-Some.arc ≡ position (same_list q) l = c.in-Some.ensures c.self.invariant.rising ∙ ap (λ w. position (same_list w) l) c.items.ensures in
    ((λ k. subst (Has q) (ap (λ w. w.arcs) c.self.view_is) (get_has l c.in-Some.arc q (found_at q l c.in-Some.arc e))), (λ h. refl))
