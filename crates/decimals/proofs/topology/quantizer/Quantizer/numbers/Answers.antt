use Rattle.std.proofs.Common.{◌≡◌, ℤ, to_z, of_z, w64, ap, ◌∙◌, arith}
use Rattle.std.proofs.lemmas.Int.{ints}
use Rattle.std.specs.Int.{w128}
use Rattle.decimals.specs.Topology.QuantizedAxis.{number_on}
use Rattle.decimals.proofs.topology.quantizer.Quantizer.numbers.Goals as goal

pub returns-clause-value : goal.returns-clause-value
returns-clause-value c =
    let q = c.args.self.now in
    let place = c.to_absolute-x.result in
    let across : to_z w64 (of_z w64 place.0) ≡ place.0 = omega (arith, ints) in
    let along : to_z w64 (of_z w64 place.1) ≡ place.1 = omega (arith, ints) in
    let x : to_z w128 (of_z w128 c.number.result) ≡ c.number.result = omega (arith, ints, c.number.ensures.bound) in
    let y : to_z w128 (of_z w128 c.number-2.result) ≡ c.number-2.result = omega (arith, ints, c.number-2.ensures.bound) in
    let first = x ∙ (c.number.ensures.value ∙ ap (number_on q.x) (across ∙ ap (λ (p : ℤ × ℤ). p.0) c.to_absolute-x.ensures.value)) in
    let second = y ∙ (c.number-2.ensures.value ∙ ap (number_on q.y) (along ∙ ap (λ (p : ℤ × ℤ). p.1) c.to_absolute-x.ensures.value)) in
    (λ i. (first i, second i))
