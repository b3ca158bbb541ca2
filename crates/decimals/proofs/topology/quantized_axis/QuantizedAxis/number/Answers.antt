use Rattle.std.proofs.Common.{◌≡◌, pos, ◌*ℤ◌, ◌-ℤ◌, to_z, of_z, w64, ap, ◌∙◌, arith}
use Rattle.std.proofs.lemmas.Int.{ints, to_z-of_z}
use Rattle.std.specs.Int.{w128}
use Rattle.decimals.specs.Topology.QuantizedAxis.{nearest, number_on}
use Rattle.decimals.proofs.topology.quantized_axis.QuantizedAxis.number.Goals as goal

pub returns-clause-value : goal.returns-clause-value
returns-clause-value c =
    let a = c.self.inside in
    let offset = to_z w128 (of_z w128 c.worth.result) -ℤ to_z w128 (of_z w128 a.translate) in
    let fits : to_z w128 (of_z w128 offset) ≡ c.worth.result -ℤ a.translate = omega (arith, ints, c.worth.ensures.bound, c.self.invariant.translate) in
    let scale : to_z w128 (of_z w128 a.scale) ≡ a.scale = omega (arith, ints, c.self.invariant.scale) in
    let back : to_z w128 (of_z w128 c.nearest.result) ≡ c.nearest.result = omega (arith, ints, c.nearest.ensures.bound) in
    let whole : to_z w64 (of_z w64 c.args.absolute) ≡ c.args.absolute = to_z-of_z w64 c.args.absolute c.ranges.absolute in
    let exact : c.worth.result -ℤ a.translate ≡ (c.args.absolute *ℤ pos a.unit) -ℤ a.translate =
    ap (λ z. z -ℤ a.translate) (c.worth.ensures.value ∙ ap (λ z. z *ℤ pos a.unit) whole) in
    back ∙ (c.nearest.ensures.value ∙ ((λ i. nearest ((fits ∙ exact) i) (scale i)) ∙ ap (λ v. number_on v c.args.absolute) c.self.view_is))
