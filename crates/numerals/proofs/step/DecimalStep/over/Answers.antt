use Rattle.std.proofs.Common.{◌≡◌, ◌-◌, ◌*◌, ◌^◌, ◌/◌, Some, min, ap, ap₂, ◌∙◌, arith}
use Rattle.numerals.proofs.Fractions.{over_is, quotient_is, some_each}
use Rattle.numerals.proofs.step.DecimalStep.over.Goals as goal
use Rattle.numerals.proofs.step.DecimalStep.over.Goals.{then-count-lt1-via-then-count-lt1, then-count-lt1-via-else-count-lt1+then-count-gt-MOST_UNITS, then-count-lt1-via-else-count-lt1+else-count-gt-MOST_UNITS+then-count-each}

pub nonzero_div-count : goal.nonzero_div-count
nonzero_div-count c =
    let s = c.args.self.now in
    let unit = c.args.unit.now in
    let all : c.times_power-all.result ≡ min (s.size * 10 ^ min (unit.places - s.places) 38) (2 ^ 128 - 1) =
    c.times_power-all.ensures ∙ ap₂ (λ a b. min (a * 10 ^ min b 38) (2 ^ 128 - 1)) c.size.ensures.value (omega (arith, c.saturating_sub.ensures, c.from-unit_places.ensures, c.from-places.ensures, c.places.ensures, c.places-2.ensures)) in
    let each : c.times_power-each.result ≡ min (unit.size * 10 ^ min (s.places - unit.places) 38) (2 ^ 128 - 1) =
    c.times_power-each.ensures ∙ ap₂ (λ a b. min (a * 10 ^ min b 38) (2 ^ 128 - 1)) c.size-2.ensures.value (omega (arith, c.saturating_sub-2.ensures, c.from-unit_places.ensures, c.from-places.ensures, c.places.ensures, c.places-2.ensures)) in
    some_each s unit 0 c.times_power-all.result c.times_power-each.result c.size.ensures.limits c.size-2.ensures.limits all each

pub returns-then-count-lt1 : goal.returns-then-count-lt1
returns-then-count-lt1 c k =
    let s = c.args.self.now in
    let unit = c.args.unit.now in
    let a = c.times_power-all.result in
    let e = c.times_power-each.result in
    let all : a ≡ min (s.size * 10 ^ min (unit.places - s.places) 38) (2 ^ 128 - 1) =
    c.times_power-all.ensures ∙ ap₂ (λ a b. min (a * 10 ^ min b 38) (2 ^ 128 - 1)) c.size.ensures.value (omega (arith, c.saturating_sub.ensures, c.from-unit_places.ensures, c.from-places.ensures, c.places.ensures, c.places-2.ensures)) in
    let each : e ≡ min (unit.size * 10 ^ min (s.places - unit.places) 38) (2 ^ 128 - 1) =
    c.times_power-each.ensures ∙ ap₂ (λ a b. min (a * 10 ^ min b 38) (2 ^ 128 - 1)) c.size-2.ensures.value (omega (arith, c.saturating_sub-2.ensures, c.from-unit_places.ensures, c.from-places.ensures, c.places.ensures, c.places-2.ensures)) in
    let some = some_each s unit k a e c.size.ensures.limits c.size-2.ensures.limits all each in (
      λ none. absurd cc,
      λ o.
          let is = (over_is s unit k a e c.size.ensures.limits c.size-2.ensures.limits all each).0 o in
          let count : a / e ≡ k = quotient_is a e k some is.2 in
          absurd (elim c.then-count-lt1.branch [
            | then-count-lt1-via-then-count-lt1 w ↦ omega (arith, w.if-count-lt1.true, count, is.0)
            | then-count-lt1-via-else-count-lt1+then-count-gt-MOST_UNITS w ↦ omega (arith, w.if-count-gt-MOST_UNITS.true, count, is.1)
            | then-count-lt1-via-else-count-lt1+else-count-gt-MOST_UNITS+then-count-each w ↦ w.if-count-each.true (ap (λ x. x * e) count ∙ omega (arith, is.2))
          ]),
    )

pub returns : goal.returns
returns c k =
    let s = c.args.self.now in
    let unit = c.args.unit.now in
    let a = c.times_power-all.result in
    let e = c.times_power-each.result in
    let all : a ≡ min (s.size * 10 ^ min (unit.places - s.places) 38) (2 ^ 128 - 1) =
    c.times_power-all.ensures ∙ ap₂ (λ a b. min (a * 10 ^ min b 38) (2 ^ 128 - 1)) c.size.ensures.value (omega (arith, c.saturating_sub.ensures, c.from-unit_places.ensures, c.from-places.ensures, c.places.ensures, c.places-2.ensures)) in
    let each : e ≡ min (unit.size * 10 ^ min (s.places - unit.places) 38) (2 ^ 128 - 1) =
    c.times_power-each.ensures ∙ ap₂ (λ a b. min (a * 10 ^ min b 38) (2 ^ 128 - 1)) c.size-2.ensures.value (omega (arith, c.saturating_sub-2.ensures, c.from-unit_places.ensures, c.from-places.ensures, c.places.ensures, c.places-2.ensures)) in
    let some = some_each s unit k a e c.size.ensures.limits c.size-2.ensures.limits all each in
    let is = over_is s unit k a e c.size.ensures.limits c.size-2.ensures.limits all each in (
      λ q. let count : a / e ≡ k = cc in is.1 (omega (arith, count, c.if-count-lt1.false), omega (arith, count, c.if-count-gt-MOST_UNITS.false), omega (arith, c.if-count-each.false, ap (λ x. x * e) count)),
      λ o. ap Some (quotient_is a e k some (is.0 o).2),
    )
