-- Fractions of the same worth, rounded and in ten-thousandths.
use Rattle.std.proofs.Common.{◌≡◌, ◌↔◌, ℕ, zero, suc, ◌+◌, ◌-◌, ◌*◌, ◌/◌, Option, Some, None, IfSome, ◌^◌, ◌<◌, ◌≤◌, ◌⊎◌, inl, inr, min, Bool, nat_eq, IsTrue, sym, ap, ◌∙◌, lit<, arith, mul-le-mul_right, zero-mul}
use Rattle.std.proofs.Math.Nat.{le_of_mul-le-mul_right, pow-le-pow_right}
use Rattle.std.proofs.lemmas.Bool.{cases_lt}
use Rattle.std.proofs.lemmas.Bool.Decides.{nat_tests}
use Rattle.std.proofs.lemmas.Nat.{div-add-mod', le-div, mod_below, mul-le, pow-add}
use Rattle.fast_float.proofs.ExactLemmas.{ten_to_pos}
use Rattle.numerals.specs.Distance.{AreTenThousandths}
use Rattle.numerals.specs.Nearest.{IsRounded}
use Rattle.numerals.specs.Numeral.{IsMeasure, IsOver, Measure}
use Rattle.numerals.specs.Quotient.{IsSameFraction}
use Rattle.numerals.proofs.Ceilings.{capped}

-- a common factor left out
below_without : (a b k : ℕ) → 0 < k → a * k < b * k → a < b
below_without a b k some h =
    elim (cases_lt a b) [
      | inl less ↦ less
      | inr more ↦ absurd (omega (arith, h, mul-le-mul_right k more))
    ]

pub same_without : (a b k : ℕ) → 0 < k → a * k ≡ b * k → a ≡ b
same_without a b k some e =
    let low : a ≤ b = le_of_mul-le-mul_right {k = k} (omega (arith, e)) some in
    let high : b ≤ a = le_of_mul-le-mul_right {k = k} (omega (arith, e)) some in
    omega (arith, low, high)

pub same_rounded : (n d m e q : ℕ) → 0 < d → IsSameFraction n d m e → IsRounded m e q → IsRounded n d q
same_rounded n d m e q some f h =
    let low : 2 * (q * d) * e ≤ (2 * n + d) * e = omega (arith, f.worth, mul-le-mul_right d h.low) in
    let next : 2 * m + e + 1 ≤ 2 * ((q + 1) * e) = omega (arith, h.high) in
    let high : (2 * n + d) * e < 2 * ((q + 1) * d) * e = omega (arith, some, f.worth, mul-le-mul_right d next) in
    record { low = le_of_mul-le-mul_right {k = e} low f.some; high = below_without (2 * n + d) (2 * ((q + 1) * d)) e f.some high }

pub same_parts : (n d m e k : ℕ) (f : Bool) → 0 < d → IsSameFraction n d m e → AreTenThousandths m e k f → AreTenThousandths n d k f
same_parts n d m e k f some s h =
    let low : k * d * e ≤ 10000 * n * e = omega (arith, s.worth, mul-le-mul_right d h.low) in
    record {
      limit = h.limit;
      low = le_of_mul-le-mul_right {k = e} low s.some;
      high = λ few.
          let next : 10000 * m + 1 ≤ (k + 1) * e = omega (arith, h.high few) in
          let high : 10000 * n * e < (k + 1) * d * e = omega (arith, some, s.worth, mul-le-mul_right d next) in
          below_without (10000 * n) ((k + 1) * d) e s.some high;
      is_exact = λ few. (
        λ t. same_without (10000 * n) (k * d) e s.some (omega (arith, s.worth, ap (λ x. x * d) ((h.is_exact few).0 t))),
        λ z. (h.is_exact few).1 (same_without (10000 * m) (k * e) d some (omega (arith, s.worth, ap (λ x. x * e) z))),
      );
    }

-- by one division
pub divided_parts : (m e x : ℕ) → 0 < e → x ≡ min (m / e) (10 ^ 17) → (n d : ℕ) → 0 < d → 10000 * n * e ≡ m * d → AreTenThousandths n d x (nat_eq (m / e * e) m)
divided_parts m e x some is n d some' worth =
    let k = m / e in
    let split = div-add-mod' m e in
    let rest = mod_below m e some in
    let next : m + 1 ≤ (k + 1) * e = omega (arith, split, rest) in
    let low : k * d * e ≤ 10000 * n * e = omega (arith, worth, split, mul-le-mul_right d (div_low m e)) in
    let high : 10000 * n * e < (k + 1) * d * e = omega (arith, some', worth, mul-le-mul_right d next) in
    let exact : IsTrue (nat_eq (k * e) m) ↔ (k * e ≡ m) = grind (arith, nat_tests) in
    capped n d k x (nat_eq (k * e) m) (le_of_mul-le-mul_right {k = e} low some) (below_without (10000 * n) ((k + 1) * d) e some high) (
      λ t. same_without (10000 * n) (k * d) e some (omega (arith, worth, ap (λ y. y * d) (exact.0 t))),
      λ z. exact.1 (same_without (k * e) m d some' (omega (arith, worth, ap (λ y. y * e) z))),
    ) is
  where
    div_low : (m e : ℕ) → m / e * e ≤ m
    div_low m e = omega (arith, div-add-mod' m e)

-- from so many on a number is far
far_parts : (n d x : ℕ) (f : Bool) → 10 ^ 17 * d ≤ 10000 * n → x ≡ 10 ^ 17 → AreTenThousandths n d x f
far_parts n d x f low is =
    rw is (record { limit = omega arith; low = low; high = λ none. absurd (omega (arith, none)); is_exact = λ none. absurd (omega (arith, none)) })

-- a number times a power of ten, or more than any that counts
pub many_or_all : (m j x : ℕ) → x ≡ min (m * 10 ^ min j 38) (2 ^ 128 - 1) → (x ≡ m * 10 ^ j) ⊎ ((10 ^ 38 ≤ x) × (10 ^ 38 ≤ m * 10 ^ j))
many_or_all zero j x is = inl (omega (arith, is, zero-mul (10 ^ min j 38), zero-mul (10 ^ j)))
many_or_all (suc m) j x is =
    let one : 1 ≤ suc m = omega arith in
    elim (cases_lt 38 j) [
      | inl many ↦
          let same : min j 38 ≡ 38 = omega arith in
          let large : 10 ^ 38 ≤ 10 ^ j = pow-le-pow_right (lit< tt) {i = 38} (omega arith) in
          inr (omega (arith, rw same at is, mul-le-mul_right (10 ^ 38) one), omega (arith, large, mul-le-mul_right (10 ^ j) one))
      | inr few ↦
          let same : min j 38 ≡ j = omega arith in
          let all : x ≡ min (suc m * 10 ^ j) (2 ^ 128 - 1) = rw same at is in
          elim (cases_lt (suc m * 10 ^ j) (2 ^ 128)) [
            | inl fits ↦ inl (omega (arith, all, fits))
            | inr more ↦ inr (omega (arith, all, more), omega (arith, more))
          ]
    ]

-- a number times 1
pub few_is : (m x : ℕ) → m < 10 ^ 38 → x ≡ min (m * 10 ^ min 0 38) (2 ^ 128 - 1) → x ≡ m
few_is m x few is = omega (arith, few, is)

split_power : (a b : ℕ) → a ≤ b → 10 ^ b ≡ 10 ^ a * 10 ^ (b - a)
split_power a b h = let sum : a + (b - a) ≡ b = omega arith in rw sum at (pow-add 10 a (b - a))

module _ (number size sp p above below x : ℕ) (few : number < 10 ^ 38) (some : 1 ≤ size) (limit : size ≤ 10 ^ 12)
    (ea : above ≡ min (number * 10 ^ min (sp + 4 - p) 38) (2 ^ 128 - 1)) (eb : below ≡ min (size * 10 ^ min (p - (sp + 4)) 38) (2 ^ 128 - 1)) where
  pub some_below : 0 < below
  some_below =
      elim (many_or_all size (p - (sp + 4)) below eb) [
        | inl all ↦ omega (arith, all, mul-le-mul_right (10 ^ (p - (sp + 4))) some, ten_to_pos (p - (sp + 4)))
        | inr many ↦ omega (arith, many.0)
      ]

  some_divisor_of : 0 < size * 10 ^ p
  some_divisor_of = omega (arith, mul-le-mul_right (10 ^ p) some, ten_to_pos p)

  tens : 10 ^ (sp + 4) ≡ 10 ^ sp * 10000
  tens = pow-add 10 sp 4

  up : p ≤ sp + 4 → x ≡ min (above / below) (10 ^ 17) → AreTenThousandths (number * 10 ^ sp) (size * 10 ^ p) x (nat_eq (above / below * below) above)
  up h is =
      let none : p - (sp + 4) ≡ 0 = omega arith in
      let each : below ≡ size = few_is size below (omega (arith, limit)) (rw none at eb) in
      let power : 10 ^ (sp + 4) ≡ 10 ^ p * 10 ^ (sp + 4 - p) = split_power p (sp + 4) h in
      elim (many_or_all number (sp + 4 - p) above ea) [
        | inl all ↦ divided_parts above below x some_below is (number * 10 ^ sp) (size * 10 ^ p) some_divisor_of (up_worth each all power)
        | inr many ↦
            let most : 10 ^ 17 * below ≤ above = omega (arith, each, limit, many.0) in
            let quotient : 10 ^ 17 ≤ above / below = le-div (10 ^ 17) above below some_below most in
            far_parts (number * 10 ^ sp) (size * 10 ^ p) x _ (up_far power many.1) (omega (arith, is, quotient))
      ]
    where
      up_worth : below ≡ size → above ≡ number * 10 ^ (sp + 4 - p) → 10 ^ (sp + 4) ≡ 10 ^ p * 10 ^ (sp + 4 - p)
          → 10000 * (number * 10 ^ sp) * below ≡ above * (size * 10 ^ p)
      up_worth each all power =
          let same : 10000 * (number * 10 ^ sp) ≡ number * (10 ^ p * 10 ^ (sp + 4 - p)) = omega (arith, ap (λ y. number * y) (sym tens ∙ power)) in
          rw (same, each, all) (omega arith)

      up_far : 10 ^ (sp + 4) ≡ 10 ^ p * 10 ^ (sp + 4 - p) → 10 ^ 38 ≤ number * 10 ^ (sp + 4 - p) → 10 ^ 17 * (size * 10 ^ p) ≤ 10000 * (number * 10 ^ sp)
      up_far power many =
          let same : 10000 * (number * 10 ^ sp) ≡ number * 10 ^ (sp + 4 - p) * 10 ^ p = omega (arith, ap (λ y. number * y) (sym tens ∙ power)) in
          omega (arith, same, mul-le-mul_right (10 ^ p) many, mul-le-mul_right (10 ^ p) limit)

  down : sp + 4 < p → x ≡ min (above / below) (10 ^ 17) → AreTenThousandths (number * 10 ^ sp) (size * 10 ^ p) x (nat_eq (above / below * below) above)
  down h is =
      let none : sp + 4 - p ≡ 0 = omega arith in
      let all : above ≡ number = few_is number above few (rw none at ea) in
      let power : 10 ^ p ≡ 10 ^ (sp + 4) * 10 ^ (p - (sp + 4)) = split_power (sp + 4) p (omega arith) in
      elim (many_or_all size (p - (sp + 4)) below eb) [
        | inl each ↦ divided_parts above below x some_below is (number * 10 ^ sp) (size * 10 ^ p) some_divisor_of (down_worth all each power)
        | inr many ↦
            let less : above < below = omega (arith, all, few, many.0) in
            let quotient : above / below ≡ 0 = no_quotient above below less in
            let flag : IsTrue (nat_eq (above / below * below) above) ↔ (above ≡ 0) = rw (quotient, zero-mul below) (grind (arith, nat_tests)) in
            let nothing : x ≡ 0 = omega (arith, is, quotient) in
            rw nothing (record {
              limit = omega arith;
              low = omega (arith, zero-mul (size * 10 ^ p));
              high = λ _. down_far power many.1;
              is_exact = λ _. (
                λ t. omega (arith, ap (λ y. y * 10 ^ sp) (sym all ∙ flag.0 t), zero-mul (10 ^ sp), zero-mul (size * 10 ^ p)),
                λ z. flag.1 (all ∙ same_without number 0 (10 ^ sp) (ten_to_pos sp) (omega (arith, z, zero-mul (10 ^ sp), zero-mul (size * 10 ^ p)))),
              );
            })
      ]
    where
      no_quotient : (a b : ℕ) → a < b → a / b ≡ 0
      no_quotient a b less =
          elim (cases_lt (a / b) 1) [
            | inl none ↦ omega arith
            | inr more ↦ absurd (omega (arith, less, div-add-mod' a b, mul-le-mul_right b more))
          ]

      down_worth : above ≡ number → below ≡ size * 10 ^ (p - (sp + 4)) → 10 ^ p ≡ 10 ^ (sp + 4) * 10 ^ (p - (sp + 4))
          → 10000 * (number * 10 ^ sp) * below ≡ above * (size * 10 ^ p)
      down_worth all each power =
          let same : 10 ^ p ≡ 10 ^ sp * 10000 * 10 ^ (p - (sp + 4)) = power ∙ ap (λ y. y * 10 ^ (p - (sp + 4))) tens in
          rw (all, each, same) (omega arith)

      down_far : 10 ^ p ≡ 10 ^ (sp + 4) * 10 ^ (p - (sp + 4)) → 10 ^ 38 ≤ size * 10 ^ (p - (sp + 4)) → 10000 * (number * 10 ^ sp) < (0 + 1) * (size * 10 ^ p)
      down_far power many =
          let same : size * 10 ^ p ≡ size * 10 ^ (p - (sp + 4)) * (10 ^ sp * 10000) = omega (arith, ap (λ y. size * y) (power ∙ ap (λ y. y * 10 ^ (p - (sp + 4))) tens)) in
          let more : number + 1 ≤ 10 ^ 38 = omega (arith, few) in
          omega (arith, same, ten_to_pos sp, mul-le-mul_right (10 ^ sp * 10000) many, mul-le-mul_right (10 ^ sp * 10000) more)

  pub parts_are : x ≡ min (above / below) (10 ^ 17) → AreTenThousandths (number * 10 ^ sp) (size * 10 ^ p) x (nat_eq (above / below * below) above)
  parts_are is =
      elim (cases_lt (sp + 4) p) [
        | inl h ↦ down h is
        | inr h ↦ up h is
      ]

-- a short numeral in steps, its common power of ten left out
pub fewer_below : (digits size sp p t : ℕ) → 1 ≤ size → sp ≤ p → t ≡ 10 ^ (p - sp) → IsSameFraction (digits * 10 ^ sp) (size * 10 ^ p) digits (size * t)
fewer_below digits size sp p t some h is =
    let power : 10 ^ p ≡ 10 ^ sp * 10 ^ (p - sp) = split_power sp p h in
    rw (is, power) (record { some = omega (arith, mul-le-mul_right (10 ^ (p - sp)) some, ten_to_pos (p - sp)); worth = omega arith })

pub fewer_above : (digits size sp p t : ℕ) → 1 ≤ size → p ≤ sp → t ≡ 10 ^ (sp - p) → IsSameFraction (digits * 10 ^ sp) (size * 10 ^ p) (digits * t) size
fewer_above digits size sp p t some h is =
    let power : 10 ^ sp ≡ 10 ^ p * 10 ^ (sp - p) = split_power p sp h in
    rw (is, power) (record { some = some; worth = omega arith })

-- a step as a whole number of units
module _ (s unit : Measure) (k all each : ℕ) (h : IsMeasure s) (g : IsMeasure unit)
    (ea : all ≡ min (s.size * 10 ^ min (unit.places - s.places) 38) (2 ^ 128 - 1)) (ee : each ≡ min (unit.size * 10 ^ min (s.places - unit.places) 38) (2 ^ 128 - 1)) where
  pub some_each : 0 < each
  some_each =
      elim (many_or_all unit.size (s.places - unit.places) each ee) [
        | inl is ↦ omega (arith, is, mul-le-mul_right (10 ^ (s.places - unit.places)) g.some, ten_to_pos (s.places - unit.places))
        | inr many ↦ omega (arith, many.0)
      ]

  few_units : k ≤ 10 ^ 6 → k * unit.size ≤ 10 ^ 18
  few_units few = omega (arith, mul-le k unit.size (10 ^ 6) (10 ^ 12) few g.limit)

  over_up : s.places ≤ unit.places → k ≤ 10 ^ 6 → (s.size * 10 ^ unit.places ≡ k * unit.size * 10 ^ s.places) ↔ (all ≡ k * each)
  over_up le few =
      let none : s.places - unit.places ≡ 0 = omega arith in
      let one : each ≡ unit.size = few_is unit.size each (omega (arith, g.limit)) (rw none at ee) in
      let power : 10 ^ unit.places ≡ 10 ^ s.places * 10 ^ (unit.places - s.places) = split_power s.places unit.places le in
      let same : s.size * 10 ^ unit.places ≡ s.size * 10 ^ (unit.places - s.places) * 10 ^ s.places = omega (arith, ap (λ y. s.size * y) power) in
      elim (many_or_all s.size (unit.places - s.places) all ea) [
        | inl is ↦ rw (one, is) (
          λ e. same_without _ _ (10 ^ s.places) (ten_to_pos s.places) (sym same ∙ e),
          λ e. same ∙ ap (λ y. y * 10 ^ s.places) e,
        )
        | inr many ↦ rw one (
          λ e. absurd (omega (arith, many.1, few_units few, same_without _ _ (10 ^ s.places) (ten_to_pos s.places) (sym same ∙ e))),
          λ e. absurd (omega (arith, many.0, few_units few, e)),
        )
      ]

  over_down : unit.places < s.places → 1 ≤ k → (s.size * 10 ^ unit.places ≡ k * unit.size * 10 ^ s.places) ↔ (all ≡ k * each)
  over_down less more =
      let none : unit.places - s.places ≡ 0 = omega arith in
      let one : all ≡ s.size = few_is s.size all (omega (arith, h.limit)) (rw none at ea) in
      let power : 10 ^ s.places ≡ 10 ^ unit.places * 10 ^ (s.places - unit.places) = split_power unit.places s.places (omega arith) in
      let same : k * unit.size * 10 ^ s.places ≡ k * (unit.size * 10 ^ (s.places - unit.places)) * 10 ^ unit.places = omega (arith, ap (λ y. k * unit.size * y) power) in
      elim (many_or_all unit.size (s.places - unit.places) each ee) [
        | inl is ↦ rw (one, is) (
          λ e. same_without _ _ (10 ^ unit.places) (ten_to_pos unit.places) (e ∙ same),
          λ e. ap (λ y. y * 10 ^ unit.places) e ∙ sym same,
        )
        | inr many ↦ rw one (
          λ e. absurd (omega (
            arith,
            h.limit,
            mul-le-mul_right (unit.size * 10 ^ (s.places - unit.places)) more,
            many.1,
            same_without s.size (k * (unit.size * 10 ^ (s.places - unit.places))) (10 ^ unit.places) (ten_to_pos unit.places) (e ∙ same),
          )),
          λ e. absurd (omega (arith, h.limit, mul-le-mul_right each more, many.0, e)),
        )
      ]

  pub over_is : IsOver s unit k ↔ ((1 ≤ k) × (k ≤ 10 ^ 6) × (all ≡ k * each))
  over_is =
      elim (cases_lt unit.places s.places) [
        | inl less ↦ (λ o. (o.some, o.limit, (over_down less o.some).0 o.worth), λ b. record { some = b.0; limit = b.1; worth = (over_down less b.0).1 b.2 })
        | inr more ↦ (λ o. (o.some, o.limit, (over_up more o.limit).0 o.worth), λ b. record { some = b.0; limit = b.1; worth = (over_up more b.1).1 b.2 })
      ]

-- a quotient that is whole
pub quotient_is : (a e k : ℕ) → 0 < e → a ≡ k * e → a / e ≡ k
quotient_is a e k some same =
    let split = div-add-mod' a e in
    let rest = mod_below a e some in
    elim (cases_lt (a / e) k) [
      | inl less ↦ let next : a / e + 1 ≤ k = omega arith in absurd (omega (arith, split, rest, same, mul-le-mul_right e next))
      | inr more ↦ elim (cases_lt k (a / e)) [
        | inl less ↦ let next : k + 1 ≤ a / e = omega arith in absurd (omega (arith, split, rest, same, mul-le-mul_right e next))
        | inr fine ↦ omega arith
      ]
    ]

pub some_unit : (size places : ℕ) → 1 ≤ size → 0 < size * 10 ^ places
some_unit size places some = omega (arith, mul-le-mul_right (10 ^ places) some, ten_to_pos places)

pub if_same_parts : (n d m e : ℕ) (r : Option (ℕ × Bool)) → 0 < d → IsSameFraction n d m e → IfSome r (λ q. AreTenThousandths m e q.0 q.1) → IfSome r (λ q. AreTenThousandths n d q.0 q.1)
if_same_parts n d m e None some f h = h
if_same_parts n d m e (Some q) some f h = same_parts n d m e q.0 q.1 some f h
