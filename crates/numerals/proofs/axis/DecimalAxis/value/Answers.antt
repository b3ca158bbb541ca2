use Rattle.std.proofs.Common.{◌≡◌, ◌*ℤ◌, to_z, of_z, ap, ◌∙◌, arith}
use Rattle.std.specs.Int.{w128}
use Rattle.numerals.specs.Axis.{Axis, value_at}
use Rattle.numerals.proofs.Axes.{fits_wide, grid_kept, product_bound, value_bound, wide}
use Rattle.numerals.proofs.Steps.{grid_size}
use Rattle.numerals.proofs.axis.DecimalAxis.value.Goals as goal

pub overflow_mul-result : goal.overflow_mul-result
overflow_mul-result c =
    let n = c.args.number in
    let a : Axis = record { scale = c.self.inside.scale; translate = c.self.inside.translate; places = c.self.inside.places } in
    let number : to_z w128 (of_z w128 c.from.result) ≡ n = ap (λ z. to_z w128 (of_z w128 z)) (c.from.ensures ∙ grid_kept n c.requires) ∙ wide n (omega (arith, grid_size n c.requires)) in
    let scale = wide a.scale (omega (arith, c.self.invariant.scale)) in
    rw (number, scale) (fits_wide (n *ℤ a.scale) (omega (arith, product_bound a n c.self.invariant c.requires)))

pub overflow_add-result : goal.overflow_add-result
overflow_add-result c =
    let n = c.args.number in
    let a : Axis = record { scale = c.self.inside.scale; translate = c.self.inside.translate; places = c.self.inside.places } in
    let number : to_z w128 (of_z w128 c.from.result) ≡ n = ap (λ z. to_z w128 (of_z w128 z)) (c.from.ensures ∙ grid_kept n c.requires) ∙ wide n (omega (arith, grid_size n c.requires)) in
    let scale = wide a.scale (omega (arith, c.self.invariant.scale)) in
    let translate = wide a.translate (omega (arith, c.self.invariant.translate)) in
    let product = wide (n *ℤ a.scale) (omega (arith, product_bound a n c.self.invariant c.requires)) in
    rw (number, scale, translate, product) (fits_wide (value_at a n) (value_bound a n c.self.invariant c.requires))

pub returns-clause-given : goal.returns-clause-given
returns-clause-given c =
    let n = c.args.number in
    let a : Axis = record { scale = c.self.inside.scale; translate = c.self.inside.translate; places = c.self.inside.places } in
    let number : to_z w128 (of_z w128 c.from.result) ≡ n = ap (λ z. to_z w128 (of_z w128 z)) (c.from.ensures ∙ grid_kept n c.requires) ∙ wide n (omega (arith, grid_size n c.requires)) in
    let scale = wide a.scale (omega (arith, c.self.invariant.scale)) in
    let translate = wide a.translate (omega (arith, c.self.invariant.translate)) in
    let product = wide (n *ℤ a.scale) (omega (arith, product_bound a n c.self.invariant c.requires)) in
    rw (number, scale, translate, product) (wide (value_at a n) (value_bound a n c.self.invariant c.requires) ∙ ap (λ x. value_at x n) c.self.view_is)
