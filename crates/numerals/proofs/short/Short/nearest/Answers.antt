use Rattle.std.proofs.Common.{◌*◌, ◌^◌, refl}
use Rattle.numerals.proofs.Fractions.{same_rounded, some_unit}
use Rattle.numerals.proofs.short.Short.nearest.Goals as goal

pub returns-clause-given : goal.returns-clause-given
returns-clause-given c =
    let n = c.args.self.now.digits * 10 ^ c.args.step.now.places in
    let d = c.args.step.now.size * 10 ^ c.args.self.now.places in
    same_rounded n d c.in_ok-above.above c.in_ok-above.below c.round_fraction.result (some_unit c.args.step.now.size c.args.self.now.places (c.in_ok-above.ensures.limits refl).some)
    c.in_ok-above.ensures.given c.round_fraction.ensures
