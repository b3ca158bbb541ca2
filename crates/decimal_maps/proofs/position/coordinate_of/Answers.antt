use Rattle.std.proofs.Common.{◌≡◌, Some, None, unsigned_abs, ap, arith}
use Rattle.decimal_maps.proofs.Placing.{none_found, number_reads, one_found, too_far}
use Rattle.decimal_maps.proofs.position.coordinate_of.Goals as goal

pub returns-in_err-steps : goal.returns-in_err-steps
returns-in_err-steps c =
    let none : c.nearest_of.result ≡ None = search in
    let given : c.from_residual.result ≡ None = search in
    none_found c.args.grid.now c.args.greatest c.args.text.now c.nearest_of.result c.nearest_of.ensures none c.from_residual.result given

pub returns-then-unsigned_abs-greatest : goal.returns-then-unsigned_abs-greatest
returns-then-unsigned_abs-greatest c =
    let n = c.in_ok-steps.steps in
    let far = c.in_ok-steps.far in
    let found : c.nearest_of.result ≡ Some (n, far) = search in
    let near = (c.nearest_of.ensures n far).0 found in
    too_far c.args.grid.now c.args.greatest c.args.text.now c.nearest_of.result c.nearest_of.ensures n far found
    (omega (arith, c.unsigned_abs.ensures.value, ap unsigned_abs (number_reads n near.2), c.if-unsigned_abs-greatest.true))

pub returns : goal.returns
returns c =
    let n = c.in_ok-steps.steps in
    let far = c.in_ok-steps.far in
    let found : c.nearest_of.result ≡ Some (n, far) = search in
    let near = (c.nearest_of.ensures n far).0 found in
    one_found c.args.grid.now c.args.greatest c.args.text.now c.nearest_of.result c.nearest_of.ensures n far found
    (omega (arith, c.unsigned_abs.ensures.value, ap unsigned_abs (number_reads n near.2), c.if-unsigned_abs-greatest.false))
    _ (number_reads n near.2)
