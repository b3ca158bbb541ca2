use Rattle.std.proofs.Common.{◌≤◌, ◌*◌, ◌^◌, ap, ◌∙◌, lit<, arith}
use Rattle.std.proofs.Math.Nat.{pow-le-pow_right}
use Rattle.decimals.proofs.TopologyLemmas.Powers.{few_zeros}
use Rattle.decimals.proofs.topology.quantized_axis.times_power.Goals as goal

pub pow-requires : goal.pow-requires
pow-requires c =
    let most : 10 ^ c.min.result ≤ 10 ^ 37 = pow-le-pow_right (lit< tt) {j = 37} (omega (arith, c.min.ensures)) in
    omega (arith, most)

pub returns : goal.returns
returns c =
    omega (arith, ap (λ x. c.args.size * x) (c.pow.ensures ∙ ap (λ x. 10 ^ x) c.min.ensures), c.saturating_mul.ensures, c.min-2.ensures, few_zeros c.args.size c.args.zeros)
