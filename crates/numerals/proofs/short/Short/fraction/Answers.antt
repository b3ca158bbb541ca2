use Rattle.std.proofs.Common.{◌≡◌, ◌-◌, ◌*◌, ◌^◌, ◌≤◌, ap, ◌∙◌, arith}
use Rattle.numerals.proofs.Fractions.{fewer_above, fewer_below}
use Rattle.numerals.proofs.short.Short.fraction.Goals as goal

pub returns-then-places-self-clause-given : goal.returns-then-places-self-clause-given
returns-then-places-self-clause-given c =
    let size = c.args.step.now.size in
    let sp = c.args.step.now.places in
    let p = c.args.self.now.places in
    let t : c.in_ok-word_power.field-0 ≡ 10 ^ (p - sp) = c.in_ok-word_power.ensures ∙ ap (λ k. 10 ^ (p - k)) c.places.ensures in
    let few : sp ≤ p = omega (arith, c.places.ensures, c.if-places-self.true) in
    let below : c.in_ok-below.below ≡ size * c.in_ok-word_power.field-0 = omega (arith, c.in_ok-below.ensures, ap (λ k. k * c.in_ok-word_power.field-0) c.size.ensures.value) in
    rw below (fewer_below c.args.self.now.digits size sp p c.in_ok-word_power.field-0 c.size.ensures.limits.some few t)

pub returns-clause-given : goal.returns-clause-given
returns-clause-given c =
    let size = c.args.step.now.size in
    let sp = c.args.step.now.places in
    let p = c.args.self.now.places in
    let t : c.in_ok-word_power-2.field-0 ≡ 10 ^ (sp - p) = c.in_ok-word_power-2.ensures ∙ ap (λ k. 10 ^ (k - p)) c.places.ensures in
    let many : p ≤ sp = omega (arith, c.places.ensures, c.if-places-self.false) in
    let above : c.in_ok-above.above ≡ c.args.self.now.digits * c.in_ok-word_power-2.field-0 = omega (arith, c.in_ok-above.ensures) in
    rw (above, c.size.ensures.value) (fewer_above c.args.self.now.digits size sp p c.in_ok-word_power-2.field-0 c.size.ensures.limits.some many t)
