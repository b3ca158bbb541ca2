use Rattle.std.proofs.Common.{◌≡◌, ◌↔◌, ◌*ℤ◌, ◌-ℤ◌, IsTrue, Bool, true, false, FitsSigned, w64, rules}
use Rattle.std.proofs.lemmas.Int.{to_z-of_z}
use Rattle.grid.specs.Place.{IsGridNumber, scaling}
use Rattle.grid.proofs.Places.{number_of_product, product_of_offset}
use Rattle.grid.proofs.transform.grid_number.Goals as goal
use Rattle.grid.proofs.transform.grid_number.Goals.{After-is_grid_number}

not_true : (b : Bool) → b ≡ false → IsTrue b → ⊥
not_true b e h = search rules

is_true : (b : Bool) → b ≡ true → IsTrue b
is_true b e = search rules

-- what is known of the quotient: its product with the scale, and what its test tells
quotient_is : (c : After-is_grid_number) →
    (c.quotient-number.result *ℤ c.args.scale ≡ c.args.a -ℤ c.args.translate) × (IsTrue c.is_grid_number.result ↔ IsGridNumber c.quotient-number.result)
quotient_is c =
    let fa : FitsSigned w64 c.args.a = c.ranges.a in
    let ft : FitsSigned w64 c.args.translate = c.ranges.translate in
    let fs : FitsSigned w64 c.args.scale = c.ranges.scale in
    let fo : FitsSigned w64 c.offset-offset.result = search rules in
    let fn : FitsSigned w64 c.quotient-number.result = search rules in
    let o = simp to_z-of_z at c.offset-offset.ensures in
    let q = simp to_z-of_z at c.quotient-number.ensures in
    let m = simp to_z-of_z at c.is_multiple.ensures in
    let multiple = m.0 (is_true c.is_multiple.result c.if-not-is_multiple.false) in (
      product_of_offset (scaling c.args.scale c.args.translate) c.args.a c.offset-offset.result c.quotient-number.result c.requires.limits.scale o q multiple,
      simp to_z-of_z at c.is_grid_number.ensures,
    )

pub returns-then-not-is_multiple-clause-fault : goal.returns-then-not-is_multiple-clause-fault
returns-then-not-is_multiple-clause-fault c =
    let fa : FitsSigned w64 c.args.a = c.ranges.a in
    let ft : FitsSigned w64 c.args.translate = c.ranges.translate in
    let fs : FitsSigned w64 c.args.scale = c.ranges.scale in
    let fo : FitsSigned w64 c.offset-offset.result = search rules in
    let m = simp to_z-of_z at c.is_multiple.ensures in
    let o = simp to_z-of_z at c.offset-offset.ensures in
    λ h. not_true c.is_multiple.result c.if-not-is_multiple.true (m.1 (rw o h))

pub returns-then-not-is_grid_number-clause-fault :
    goal.returns-then-not-is_grid_number-clause-fault
returns-then-not-is_grid_number-clause-fault c =
    let (product, tested) = quotient_is (goal.at.returns-then-not-is_grid_number-clause-fault c).After-is_grid_number in
    record {
      number = c.quotient-number.result;
      product = product;
      outside = λ i _. not_true c.is_grid_number.result c.if-not-is_grid_number.true (tested.1 i);
    }

pub returns-clause-number : goal.returns-clause-number
returns-clause-number c =
    let (product, tested) = quotient_is (goal.at.returns-clause-number c).After-is_grid_number in
    let fa : FitsSigned w64 c.args.a = c.ranges.a in
    let fn : FitsSigned w64 c.quotient-number.result = search rules in
    let b = simp to_z-of_z at c.is_absolute.ensures in
    rw (to_z-of_z w64 c.quotient-number.result fn)
    (number_of_product (scaling c.args.scale c.args.translate) c.args.a c.quotient-number.result product
    (tested.0 (is_true c.is_grid_number.result c.if-not-is_grid_number.false))
    (b.0 (is_true c.is_absolute.result c.if-not-is_absolute.false)))
