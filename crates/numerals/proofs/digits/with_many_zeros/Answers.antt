use Rattle.std.proofs.Common.{◌*◌, ◌^◌, ◌≤◌, ap, ◌∙◌, lit<, arith}
use Rattle.std.proofs.Math.Nat.{pow-le-pow_right}
use Rattle.numerals.proofs.Places.{few_zeros}
use Rattle.numerals.proofs.digits.with_many_zeros.Goals as goal

pub pow-requires : goal.pow-requires
pow-requires c =
    let most : 10 ^ c.min.result ≤ 10 ^ 30 = pow-le-pow_right (lit< tt) {j = 30} (omega arith) in
    omega (arith, most)

pub returns : goal.returns
returns c = omega (arith, ap (λ x. c.args.value * x) (c.pow.ensures ∙ ap (λ x. 10 ^ x) c.min.ensures), few_zeros c.args.value c.args.zeros)
