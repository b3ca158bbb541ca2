use Rattle.std.proofs.Common.{subst, sym, ◌∙◌}
use Rattle.lines.proofs.Dropping.{drop_item}
use Rattle.normalize.specs.Pieces.{ArePieces}
use Rattle.normalize.proofs.Numbered.{made_all, made_on}
use Rattle.normalize.proofs.split.all_pieces.Goals as goal

pub loop-number-preserved : goal.loop-number-preserved
loop-number-preserved c =
    let arcs = c.args.arcs.now in
    let n = c.loop-number.number in
    let arc = c.index-arcs-number.result in
    made_on (ArePieces c.args.table.now.arcs) arcs c.loop-number.pieces.items c.push.new.self.items n arc c.from_vec.result
    (drop_item arcs n arc c.loop-number-test.true c.index-arcs-number.is) c.in_ok-push.ensures.items
    (subst (ArePieces c.args.table.now.arcs arc) (sym c.from_vec.ensures)
    (subst (λ w. ArePieces c.args.table.now.arcs w c.checked_pieces-checked.result.items) c.as_slice.ensures c.checked_pieces-checked.ensures))
    c.loop-number.invariant

pub returns : goal.returns
returns c = made_all (ArePieces c.args.table.now.arcs) c.args.arcs.now c.loop-number.pieces.items c.loop-number.number c.loop-number-test.false c.loop-number.invariant
