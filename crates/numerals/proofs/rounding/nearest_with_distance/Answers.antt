use Rattle.std.proofs.Common.{◌≡◌, ◌+◌, ◌/◌, to_z, of_z, w64, ◌∙◌, arith}
use Rattle.std.proofs.lemmas.Int.{ints}
use Rattle.fast_float.specs.Text.{with_sign}
use Rattle.numerals.proofs.Steps.{measured_beyond, measured_within}
use Rattle.numerals.proofs.rounding.nearest_with_distance.Goals as goal

pub returns-then-steps : goal.returns-then-steps
returns-then-steps c n d some h p x = (λ none. absurd cc, λ b. absurd (measured_beyond c.args.negative n d c.args.parts c.args.is_exact some h p x c.if-steps.true b))

pub returns : goal.returns
returns c n d some h p x =
    let place : to_z w64 (of_z w64 c.with_sign.result) ≡ with_sign c.args.negative ((c.args.parts + 5000) / 10000) = omega (arith, ints) ∙ c.with_sign.ensures in
    measured_within c.args.negative n d c.args.parts c.args.is_exact some h _ c.from_nearest.result c.if-steps.false place (c.from_nearest.ensures n d some h) p x
