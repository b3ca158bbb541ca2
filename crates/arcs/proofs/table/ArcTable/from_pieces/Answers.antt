use Rattle.std.proofs.Common.{◌≡◌, true, map, sym, subst}
use Rattle.lines.specs.Turned.{list_cmp}
use Rattle.theory.specs.Arcs.{AreSortedOnce}
use Rattle.arcs.specs.Pieces.{chain_of}
use Rattle.arcs.specs.Stored.{positions_of, loops_of, rises}
use Rattle.arcs.specs.Table.{AreLoopsOf}
use Rattle.arcs.proofs.Extents.{alone}
use Rattle.arcs.proofs.Marks.{merged_once, merged_loops, alike_means}
use Rattle.arcs.proofs.Merged.{pieces_rise}
use Rattle.arcs.proofs.ArcsOfPieces.{table_is}
use Rattle.arcs.proofs.table.ArcTable.from_pieces.Goals as goal

pub invariant_of-result : goal.invariant_of-result
invariant_of-result c =
    alone _ (subst (λ w. rises (map positions_of w) ≡ true) (sym c.in_ok-arcs.ensures) (pieces_rise c.sort_unstable.new.self.items c.sort_unstable.ensures.sorted))

pub returns-clause-arcs : goal.returns-clause-arcs
returns-clause-arcs c =
    subst (λ w. AreSortedOnce list_cmp (map chain_of c.args.pieces.items) (map positions_of w)) (sym c.in_ok-arcs.ensures)
    (merged_once c.args.pieces.items c.sort_unstable.new.self.items c.sort_unstable.ensures.permutation
    (pieces_rise c.sort_unstable.new.self.items c.sort_unstable.ensures.sorted))

pub returns-clause-loops : goal.returns-clause-loops
returns-clause-loops c =
    subst (λ w. AreLoopsOf c.args.pieces.items (loops_of w)) (sym c.in_ok-arcs.ensures)
    (merged_loops c.args.pieces.items c.sort_unstable.new.self.items c.sort_unstable.ensures.permutation)

pub returns-clause-free : goal.returns-clause-free
returns-clause-free c = alike_means c.args.pieces.items _ (returns-clause-arcs c).there (returns-clause-loops c)

pub returns-clause-of_map : goal.returns-clause-of_map
returns-clause-of_map c = λ g s are. table_is g s c.args.pieces.items _ (returns-clause-arcs c) (returns-clause-loops c) are
