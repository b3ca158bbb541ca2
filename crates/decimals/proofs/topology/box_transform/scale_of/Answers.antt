use Rattle.std.proofs.Common.{◌≡◌, ◌+◌, ◌-◌, ◌*◌, ◌/◌, ◌^◌, ◌≤◌, ◌<◌, false, pos, ◌-ℤ◌, ◌∙◌, inl, inr, refl, lit<, arith}
use Rattle.std.proofs.Math.Nat.{div-le_self, pow-le-pow_right}
use Rattle.std.proofs.lemmas.Bool.{cases_Bool}
use Rattle.std.proofs.lemmas.Bool.Decides.{Decides-int_eq}
use Rattle.std.proofs.lemmas.Int.{ints, to_z_pos}
use Rattle.std.proofs.lemmas.Nat.{mul-le}
use Rattle.std.specs.Int.{w128}
use Rattle.std.specs.Ordering.{int_eq}
use Rattle.std.specs.Prelude.{unsigned_abs}
use Rattle.decimals.proofs.topology.box_transform.scale_of.Goals as goal

pub pow-requires : goal.pow-requires
pow-requires c =
    let most : 10 ^ (c.places.result + 12) ≤ 10 ^ 30 = pow-le-pow_right (lit< tt) {j = 30} (omega (arith, c.places.ensures, c.requires.places)) in
    record { sfits = omega (arith, ints, most) }

pub returns-then-low-high-clause-bound : goal.returns-then-low-high-clause-bound
returns-then-low-high-clause-bound c =
    let most : 10 ^ (c.places.result + 12) ≤ 10 ^ 30 = pow-le-pow_right (lit< tt) {j = 30} (omega (arith, c.places.ensures, c.requires.places)) in
    omega (arith, ints, most, c.pow.ensures)

pub returns-clause-value : goal.returns-clause-value
returns-clause-value c =
    let n = c.unsigned_abs.result * (c.size.result * 1000000000000) + c.from-3.result in
    let parts : c.size.result * 1000000000000 ≤ 10 ^ 18 = omega (arith, c.size.ensures.value, c.requires.size) in
    let span : c.unsigned_abs.result ≡ unsigned_abs (c.args.high -ℤ c.args.low) = omega (arith, ints, c.unsigned_abs.ensures.value, c.from.ensures, c.from-2.ensures) in
    let far : c.unsigned_abs.result ≤ 2 ^ 64 = omega (arith, ints, c.unsigned_abs.ensures.value, c.from.ensures, c.from-2.ensures) in
    let few : n < 2 ^ 127 = omega (arith, c.from-3.ensures, mul-le c.unsigned_abs.result (c.size.result * 1000000000000) (2 ^ 64) (10 ^ 18) far parts) in
    let bound : n / c.from-4.result < 2 ^ 127 = omega (arith, few, div-le_self n c.from-4.result) in
    let last : c.from-3.result ≡ c.args.steps - 1 = omega (arith, c.from-3.ensures) in
    let differ : int_eq c.args.low c.args.high ≡ false = elim (cases_Bool (int_eq c.args.low c.args.high)) [
      | inl t ↦ let same : c.args.low ≡ c.args.high = (Decides-int_eq c.args.low c.args.high).0 t in absurd (omega (arith, ints, c.if-low-high.false))
      | inr f ↦ f
    ] in
    to_z_pos w128 (n / c.from-4.result) bound
    ∙ ((λ i. pos ((span i * (c.size.ensures.value i * 1000000000000) + last i) / c.from-4.ensures i)) ∙ rw differ refl)

pub returns-clause-bound : goal.returns-clause-bound
returns-clause-bound c =
    let n = c.unsigned_abs.result * (c.size.result * 1000000000000) + c.from-3.result in
    let parts : c.size.result * 1000000000000 ≤ 10 ^ 18 = omega (arith, c.size.ensures.value, c.requires.size) in
    let far : c.unsigned_abs.result ≤ 2 ^ 64 = omega (arith, ints, c.unsigned_abs.ensures.value, c.from.ensures, c.from-2.ensures) in
    let few : n < 2 ^ 126 = omega (arith, c.from-3.ensures, mul-le c.unsigned_abs.result (c.size.result * 1000000000000) (2 ^ 64) (10 ^ 18) far parts) in
    omega (arith, ints, few, div-le_self n c.from-4.result)
