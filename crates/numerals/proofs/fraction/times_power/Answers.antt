use Rattle.std.proofs.Common.{◌≤◌, ◌^◌, lit<, arith}
use Rattle.std.proofs.Math.Nat.{pow-le-pow_right}
use Rattle.numerals.proofs.fraction.times_power.Goals as goal

pub pow-requires : goal.pow-requires
pow-requires c =
    let most : 10 ^ c.min.result ≤ 10 ^ 38 = pow-le-pow_right (lit< tt) {j = 38} (omega (arith, c.min.ensures)) in
    omega (arith, most)
