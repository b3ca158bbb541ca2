use Rattle.std.proofs.Common.{◌+◌, ◌∙◌, ap, drop, true, false}
use Rattle.theory.specs.ArcNumbers.{backwards}
use Rattle.lines.proofs.Dropping.{drop_item}
use Rattle.split_heal.specs.Starts.{starts_by, starts_in, with_head}
use Rattle.split_heal.proofs.Noting.{arc_step}
use Rattle.split_heal.proofs.start_table.ArcStartTable.of.Goals as goal

pub loop-i-preserved : goal.loop-i-preserved
loop-i-preserved c =
    let i = c.loop-i.i in
    arc_step c.loop-i.i c.index-pieces-i.result (drop i c.args.pieces.now) (drop (i + 1) c.args.pieces.now) (starts_in c.loop-i.table) (starts_in c.add_ahead.new.self)
    (starts_in c.add_against.new.self) (starts_by c.args.pieces.now)
    (drop_item c.args.pieces.now c.loop-i.i c.index-pieces-i.result c.loop-i-test.true c.index-pieces-i.is)
    (λ q. c.in_ok-add_ahead.ensures q ∙ ap (λ w. with_head (record { arc = i; reversed = false }) w (starts_in c.loop-i.table) q) c.as_slice.ensures)
    (λ q. c.in_ok-add_against.ensures q ∙ ap (λ w. with_head (record { arc = i; reversed = true }) (backwards w) (starts_in c.add_ahead.new.self) q) c.as_slice-in-loop-i.ensures)
    c.loop-i.invariant
