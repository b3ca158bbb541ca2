use Rattle.std.proofs.Common.{arith, length, ◌≡◌}
use Rattle.compare.proofs.KeyTexts.{all_keys}
use Rattle.compare.proofs.property.keys_of.Goals as goal

pub returns : goal.returns
returns c =
    let e : c.loop-geometry.geometry-index ≡ length c.args.geometries.now = omega (arith, c.loop-geometry-test.false, c.loop-geometry.auto.geometry-index-end) in
    all_keys c.args.name.now c.args.geometries.now c.loop-geometry.geometry-index c.loop-geometry.keys.items e c.loop-geometry.invariant
