use Rattle.std.proofs.Common.{◌≡◌, true, length, map, ap, sym, ◌∙◌, subst}
use Rattle.std.specs.List.Sorted.{IsPermutation}
use Rattle.lines.specs.Turned.{list_cmp}
use Rattle.theory.specs.Arcs.{AreSortedOnce}
use Rattle.arcs.specs.Pieces.{chain_of}
use Rattle.arcs.specs.Placing.{arcs_of, piece_of}
use Rattle.arcs.specs.Stored.{loops_of, positions_of, rises}
use Rattle.arcs.specs.Table.{AreLoopsOf, located}
use Rattle.arcs.proofs.Extents.{alone}
use Rattle.arcs.proofs.Marks.{merged_loops, merged_once}
use Rattle.arcs.proofs.PlacedPieces.{are_placed, pieces_moved, placed_rise, refs_are}
use Rattle.arcs.proofs.ArcsOfPieces.{table_is}
use Rattle.arcs.proofs.table.ArcTable.with_refs.Goals as goal

pub numbered_arcs-requires-clause-placed : goal.numbered_arcs-requires-clause-placed
numbered_arcs-requires-clause-placed c =
    let ps = c.args.pieces.items in
    let l = c.sort.new.self.items in
    are_placed ps l (subst (λ w. IsPermutation w l) c.in_ok-sorted.ensures c.sort.ensures.permutation)
    (sym c.sort.new.self.ok.0 ∙ c.sort.ensures.len ∙ c.in_ok-sorted.sorted.ok.0 ∙ ap length c.in_ok-sorted.ensures)

pub numbered_arcs-requires-clause-rises : goal.numbered_arcs-requires-clause-rises
numbered_arcs-requires-clause-rises c =
    let l = c.sort.new.self.items in
    placed_rise c.args.pieces.items l (subst (λ w. IsPermutation w l) c.in_ok-sorted.ensures c.sort.ensures.permutation) c.in_ok-sort.ensures.sorted

pub invariant_of-result : goal.invariant_of-result
invariant_of-result c =
    let l = c.sort.new.self.items in
    alone _ (subst (λ w. rises (map positions_of w) ≡ true) (sym c.in_ok-arcs.ensures.arcs)
    (placed_rise c.args.pieces.items l (subst (λ w. IsPermutation w l) c.in_ok-sorted.ensures c.sort.ensures.permutation) c.in_ok-sort.ensures.sorted))

pub returns-clause-arcs : goal.returns-clause-arcs
returns-clause-arcs c =
    let ps = c.args.pieces.items in
    let l = c.sort.new.self.items in
    let same = subst (λ w. IsPermutation w l) c.in_ok-sorted.ensures c.sort.ensures.permutation in
    subst (λ w. AreSortedOnce list_cmp (map chain_of ps) (map positions_of w)) (sym c.in_ok-arcs.ensures.arcs)
    (merged_once ps (map piece_of l) (pieces_moved ps l same) (placed_rise ps l same c.in_ok-sort.ensures.sorted))

pub returns-clause-loops : goal.returns-clause-loops
returns-clause-loops c =
    let ps = c.args.pieces.items in
    let l = c.sort.new.self.items in
    subst (λ w. AreLoopsOf ps (loops_of w)) (sym c.in_ok-arcs.ensures.arcs)
    (merged_loops ps (map piece_of l) (pieces_moved ps l (subst (λ w. IsPermutation w l) c.in_ok-sorted.ensures c.sort.ensures.permutation)))

pub returns-clause-of_map : goal.returns-clause-of_map
returns-clause-of_map c = λ g s are. table_is g s c.args.pieces.items _ (returns-clause-arcs c) (returns-clause-loops c) are

pub returns-clause-refs : goal.returns-clause-refs
returns-clause-refs c =
    let ps = c.args.pieces.items in
    let l = c.sort.new.self.items in
    let same = subst (λ w. IsPermutation w l) c.in_ok-sorted.ensures c.sort.ensures.permutation in
    refs_are ps l same (arcs_of l) c.in_ok-arcs.refs.items c.in_ok-arcs.ensures.len (sym c.sort.new.self.ok.0 ∙ c.sort.ensures.len ∙ c.in_ok-sorted.sorted.ok.0 ∙ ap length c.in_ok-sorted.ensures) c.in_ok-arcs.ensures.refs
    ∙ ap (λ w. map (located (map positions_of w)) ps) (sym c.in_ok-arcs.ensures.arcs)
