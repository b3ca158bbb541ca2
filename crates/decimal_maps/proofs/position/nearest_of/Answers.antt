use Rattle.std.proofs.Common.{◌≡◌, Some}
use Rattle.decimal_maps.proofs.Placing.{near_measured, near_unmeasured, number_reads}
use Rattle.decimal_maps.proofs.position.nearest_of.Goals as goal

pub returns-then-grid : goal.returns-then-grid
returns-then-grid c = near_measured c.args.grid.now c.as_bytes.result.now c.args.text.now c.as_bytes.ensures.value c.snap_measured.result c.snap_measured.ensures c.if-grid.true

pub returns : goal.returns
returns c =
    let n = c.in_ok-steps.steps in
    let found : c.snap.result ≡ Some n = search in
    let near = (c.snap.ensures n).0 found in
    near_unmeasured c.args.grid.now c.as_bytes-2.result.now c.args.text.now c.as_bytes-2.ensures.value c.snap.result c.snap.ensures c.if-grid.false n _ found (number_reads n near.2)
