use Rattle.std.proofs.Common.{◌≡◌, string_bytes, to_z, of_z, w64, ap, subst, sym, ◌∙◌, arith}
use Rattle.std.proofs.lemmas.Int.{ints}
use Rattle.decimals.specs.Topology.BoxTransform.{IsBoxTransform, corners_or_zero, corners_transform}
use Rattle.decimals.proofs.TopologyLemmas.Boxes.{corners_are, same_fault}
use Rattle.decimals.proofs.topology.decimal_transform.DecimalTransform.of_box.Goals as goal

pub returns-in-Err-clause-refused : goal.returns-in-Err-clause-refused
returns-in-Err-clause-refused c = λ e b.
    let u = c.args.unit.now in
    let k = c.corners_of-west.result in
    let west : to_z w64 (of_z w64 k.0) ≡ k.0 = omega (arith, ints) in
    let south : to_z w64 (of_z w64 k.1) ≡ k.1 = omega (arith, ints) in
    let east : to_z w64 (of_z w64 k.2) ≡ k.2 = omega (arith, ints) in
    let north : to_z w64 (of_z w64 k.3) ≡ k.3 = omega (arith, ints) in
    let corners : k ≡ corners_or_zero c.args.topology.now.bbox = c.corners_of-west.ensures ∙ ap corners_or_zero c.bbox.ensures in
    let here : IsBoxTransform u c.args.steps k = subst (IsBoxTransform u c.args.steps) (sym corners) b in
    (rw (west, east) at c.in-Err.ensures.refused) (same_fault _ _ e) here.x

pub returns-in-Err-box_axis-clause-refused : goal.returns-in-Err-box_axis-clause-refused
returns-in-Err-box_axis-clause-refused c = λ e b.
    let u = c.args.unit.now in
    let k = c.corners_of-west.result in
    let west : to_z w64 (of_z w64 k.0) ≡ k.0 = omega (arith, ints) in
    let south : to_z w64 (of_z w64 k.1) ≡ k.1 = omega (arith, ints) in
    let east : to_z w64 (of_z w64 k.2) ≡ k.2 = omega (arith, ints) in
    let north : to_z w64 (of_z w64 k.3) ≡ k.3 = omega (arith, ints) in
    let corners : k ≡ corners_or_zero c.args.topology.now.bbox = c.corners_of-west.ensures ∙ ap corners_or_zero c.bbox.ensures in
    let here : IsBoxTransform u c.args.steps k = subst (IsBoxTransform u c.args.steps) (sym corners) b in
    (rw (south, north) at c.in-Err-box_axis.ensures.refused) (same_fault _ _ e) here.y

pub returns-clause-value : goal.returns-clause-value
returns-clause-value c =
    let u = c.args.unit.now in
    let k = c.corners_of-west.result in
    let x = c.in-Ok.axis in
    let y = c.in-Ok-box_axis.axis in
    let west : to_z w64 (of_z w64 k.0) ≡ k.0 = omega (arith, ints) in
    let south : to_z w64 (of_z w64 k.1) ≡ k.1 = omega (arith, ints) in
    let east : to_z w64 (of_z w64 k.2) ≡ k.2 = omega (arith, ints) in
    let north : to_z w64 (of_z w64 k.3) ≡ k.3 = omega (arith, ints) in
    let corners : k ≡ corners_or_zero c.args.topology.now.bbox = c.corners_of-west.ensures ∙ ap corners_or_zero c.bbox.ensures in
    corners_are u c.args.steps k (string_bytes x.scale) (string_bytes y.scale) (string_bytes x.translate) (string_bytes y.translate) x.axis y.axis
    (rw (west, east) at c.in-Ok.ensures.scale) (rw (south, north) at c.in-Ok-box_axis.ensures.scale) (rw west at c.in-Ok.ensures.translate) (rw south at c.in-Ok-box_axis.ensures.translate)
    (rw (west, east) at c.in-Ok.ensures.axis) (rw (south, north) at c.in-Ok-box_axis.ensures.axis)
    ∙ ap (corners_transform u c.args.steps) corners

pub returns-clause-within : goal.returns-clause-within
returns-clause-within c =
    let u = c.args.unit.now in
    let k = c.corners_of-west.result in
    let west : to_z w64 (of_z w64 k.0) ≡ k.0 = omega (arith, ints) in
    let south : to_z w64 (of_z w64 k.1) ≡ k.1 = omega (arith, ints) in
    let east : to_z w64 (of_z w64 k.2) ≡ k.2 = omega (arith, ints) in
    let north : to_z w64 (of_z w64 k.3) ≡ k.3 = omega (arith, ints) in
    let corners : k ≡ corners_or_zero c.args.topology.now.bbox = c.corners_of-west.ensures ∙ ap corners_or_zero c.bbox.ensures in
    let both : IsBoxTransform u c.args.steps k = record { x = rw (west, east) at c.in-Ok.ensures.within; y = rw (south, north) at c.in-Ok-box_axis.ensures.within } in
    subst (IsBoxTransform u c.args.steps) corners both
