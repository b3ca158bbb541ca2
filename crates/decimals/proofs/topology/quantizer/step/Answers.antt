use Rattle.std.proofs.Common.{◌≡◌, ◌-ℤ◌, to_z, of_z, arith}
use Rattle.std.proofs.lemmas.Int.{ints}
use Rattle.std.specs.Int.{w128}
use Rattle.decimals.proofs.topology.quantizer.step.Goals as goal

pub returns : goal.returns
returns c =
    let here = c.args.here in
    let before = c.args.before in
    let x : to_z w128 (of_z w128 (to_z w128 (of_z w128 here.0) -ℤ to_z w128 (of_z w128 before.0))) ≡ here.0 -ℤ before.0 =
    omega (arith, ints, c.requires.from.x, c.requires.to.x) in
    let y : to_z w128 (of_z w128 (to_z w128 (of_z w128 here.1) -ℤ to_z w128 (of_z w128 before.1))) ≡ here.1 -ℤ before.1 =
    omega (arith, ints, c.requires.from.y, c.requires.to.y) in
    (λ i. (x i, y i))
