use Rattle.std.proofs.Common.{◌≡◌, ◌++◌, ◌∙◌, ap, map, subst, sym}
use Rattle.lines.specs.Turned.{list_cmp}
use Rattle.theory.specs.Arcs.{AreSortedOnce}
use Rattle.theory.specs.Lists.{joined}
use Rattle.arcs.specs.Arcs.{Arcs}
use Rattle.arcs.specs.Extents.{within}
use Rattle.arcs.specs.Pieces.{chain_of}
use Rattle.arcs.specs.Table.{located, ArePiecesOfMap, IsTableOf}
use Rattle.split_heal.specs.Bounds.{parts_between}
use Rattle.split_heal.specs.Cutting.{pieces_from}
use Rattle.split_heal.proofs.Bounds.{between_again, bounds_are}
use Rattle.split_heal.proofs.Held.{pieces_held}
use Rattle.split_heal.proofs.split_all.cut_all.Goals as goal
use Rattle.split_heal.proofs.split_all.cut_all.Goals.{In_ok-table}

-- the pieces that were added to none
cut : (c : In_ok-table) → c.add_table.new.pieces.items ≡ joined (pieces_from c.args.index.now c.args.marks.now 0 c.args.arcs.items)
cut c =
    c.in_ok-bounds.ensures.pieces
    ∙ ap (λ w. w ++ joined (pieces_from c.args.index.now c.args.marks.now 0 c.args.arcs.items)) c.new-pieces.ensures.items

pub with_extent-requires : goal.with_extent-requires
with_extent-requires c =
    pieces_held (within c.args.extent) c.args.index.now c.args.arcs.items c.args.marks.now c.add_table.new.pieces.items c.in_ok-table.table.arcs
    (cut (goal.at.with_extent-requires c).In_ok-table) c.in_ok-table.ensures.arcs c.requires

pub between-requires : goal.between-requires
between-requires c =
    let new = c.in_ok-table.table.arcs in
    bounds_are (located new) (pieces_from c.args.index.now c.args.marks.now 0 c.args.arcs.items) c.in_ok-bounds.bounds.items c.in_ok-table.refs.items
    c.in_ok-bounds.ensures.bounds (c.in_ok-table.ensures.refs ∙ ap (map (located new)) (cut (goal.at.between-requires c).In_ok-table))

pub returns-clause-arcs : goal.returns-clause-arcs
returns-clause-arcs c =
    let pieces = joined (pieces_from c.args.index.now c.args.marks.now 0 c.args.arcs.items) in
    subst (λ (t : Arcs). AreSortedOnce list_cmp (map chain_of pieces) t.arcs) (sym c.with_extent.ensures)
    (subst (λ ps. AreSortedOnce list_cmp (map chain_of ps) c.in_ok-table.table.arcs) (cut (goal.at.returns-clause-arcs c).In_ok-table) c.in_ok-table.ensures.arcs)

pub returns-clause-of_map : goal.returns-clause-of_map
returns-clause-of_map c = λ g sound are.
    subst (IsTableOf g) (sym c.with_extent.ensures)
    (c.in_ok-table.ensures.of_map g sound (subst (ArePiecesOfMap g) (sym (cut (goal.at.returns-clause-of_map c).In_ok-table)) are))

pub returns-clause-lists : goal.returns-clause-lists
returns-clause-lists c =
    let all = pieces_from c.args.index.now c.args.marks.now 0 c.args.arcs.items in
    ap (parts_between c.args.begins.items)
    (c.between.ensures
    ∙ (λ i. parts_between (c.in_ok-bounds.ensures.bounds i) ((c.in_ok-table.ensures.refs ∙ ap (map (located c.in_ok-table.table.arcs)) (cut (goal.at.returns-clause-lists c).In_ok-table)) i))
    ∙ between_again (located c.in_ok-table.table.arcs) all
    ∙ ap (λ (t : Arcs). map (map (located t.arcs)) all) (sym c.with_extent.ensures))
