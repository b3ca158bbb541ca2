use Rattle.std.proofs.Common.{◌≡◌, ◌+ℤ◌, to_z, of_z, arith}
use Rattle.std.proofs.lemmas.Int.{ints}
use Rattle.std.specs.Int.{w128}
use Rattle.decimals.proofs.TopologyLemmas.Areas.{area_step}
use Rattle.decimals.proofs.topology.area.area_from.Goals as goal

pub loop-position-preserved : goal.loop-position-preserved
loop-position-preserved c =
    let before = to_z w128 c.loop-position.area-bits in
    let sum : to_z w128 (of_z w128 c.in_ok-area.area) ≡ before +ℤ c.in_ok-cross.field-0 = omega (arith, ints, c.in_ok-area.ensures.0, c.in_ok-area.ensures.1) in
    area_step before _ c.in_ok-cross.field-0 c.loop-position.before c.position-item.result c.args.first c.args.others.now c.loop-position.position-index
    c.loop-position-test.true c.position-item.is sum c.in_ok-cross.ensures c.loop-position.invariant
