-- How far numbers are from whole ones, in ten-thousandths rounded up.
use Rattle.std.proofs.Common.{◌≡◌, ◌↔◌, ℕ, zero, suc, ◌+◌, ◌-◌, ◌*◌, ◌/◌, ◌%◌, ◌<◌, ◌≤◌, ◌^◌, min, Bool, true, false, cond, nat_eq, IsTrue, ◌++◌, drop, inl, inr, refl, sym, subst, ap, ◌∙◌, arith, mul-le-mul_right, zero-mul}
use Rattle.std.proofs.lemmas.Bool.{cases_lt}
use Rattle.std.proofs.lemmas.Bool.Decides.{nat_tests}
use Rattle.std.proofs.lemmas.Nat.{div-add-mod', le-div, mod_below, pow-add}
use Rattle.std.specs.Prelude.{unsigned_abs}
use Rattle.std.specs.Str.Parse.{AllDigits, digits_value}
use Rattle.fast_float.specs.Text.{Parts, digits_of, tens_up, tens_down}
use Rattle.fast_float.proofs.ExactLemmas.{ten_to_pos}
use Rattle.numerals.specs.Distance.{AreTenThousandths, away, rounded_up}
use Rattle.numerals.specs.Quotient.{IsQuotient}
use Rattle.numerals.specs.Floor.{floor_of, kept_of}
use Rattle.numerals.specs.Laws.{OnTheGridIsNotMoved}
use Rattle.numerals.specs.Numeral.{dividend, divisor}
use Rattle.numerals.proofs.Steps.{some_divisor}
use Rattle.numerals.proofs.Places.{exact_where, first_digits_is}

-- x is a / b rounded up
pub record IsCeiling (a b x : ℕ) : Type 0 where
  pub low : a ≤ x * b
  pub high : x * b < a + b

pub ceiling_of : (a b : ℕ) → 0 < b → IsCeiling a b (rounded_up a b)
ceiling_of a b some =
    let split = div-add-mod' (a + (b - 1)) b in
    let rest = mod_below (a + (b - 1)) b some in
    record { low = omega (arith, split, rest, some); high = omega (arith, split, rest, some) }

not_above : (a b x y : ℕ) → IsCeiling a b x → IsCeiling a b y → x ≤ y
not_above a b x y h k =
    elim (cases_lt y x) [
      | inl more ↦ let next : y + 1 ≤ x = omega arith in absurd (omega (arith, h.high, k.low, mul-le-mul_right b next))
      | inr less ↦ less
    ]

one_ceiling : (a b x y : ℕ) → IsCeiling a b x → IsCeiling a b y → x ≡ y
one_ceiling a b x y h k = omega (arith, not_above a b x y h k, not_above a b y x k h)

-- what is left of a number, in more than one way
left_below : (k l b m r : ℕ) → m < b → k * b + m ≡ l * b + r → l ≤ k
left_below k l b m r less e =
    elim (cases_lt k l) [
      | inl more ↦ let next : k + 1 ≤ l = omega arith in absurd (omega (arith, less, e, mul-le-mul_right b next))
      | inr fine ↦ fine
    ]

pub one_left : (k l b m r : ℕ) → m < b → r < b → k * b + m ≡ l * b + r → m ≡ r
one_left k l b m r p q e =
    let same : k ≡ l = omega (arith, left_below k l b m r p e, left_below l k b r m q (sym e)) in
    omega (arith, e, ap (λ x. x * b) same)

-- so many ten-thousandths, of which w are behind a whole number: the rest of the number is w ten-thousandths
rest_is : (n d k : ℕ) (e : Bool) → 0 < d → k * d ≤ 10000 * n → 10000 * n < (k + 1) * d → (IsTrue e ↔ (10000 * n ≡ k * d))
    → ((k % 10000) * d ≤ 10000 * (n % d)) × (10000 * (n % d) < (k % 10000 + 1) * d) × (IsTrue e ↔ (10000 * (n % d) ≡ (k % 10000) * d))
rest_is n d k e some low high exact =
    let q = n / d in
    let r = n % d in
    let split : n ≡ q * d + r = sym (div-add-mod' n d) in
    let below : r + 1 ≤ d = omega (arith, mod_below n d some) in
    let parts : k ≡ (k / 10000) * 10000 + k % 10000 = sym (div-add-mod' k 10000) in
    let few : k % 10000 + 1 ≤ 10000 = omega arith in
    let all : k * d ≡ (k / 10000) * 10000 * d + (k % 10000) * d = ap (λ x. x * d) parts ∙ omega arith in
    let same : q ≡ k / 10000 =
    elim (cases_lt q (k / 10000)) [
      | inl more ↦ let next : q + 1 ≤ k / 10000 = omega arith in absurd (omega (arith, low, all, split, below, mul-le-mul_right d next))
      | inr other ↦ elim (cases_lt (k / 10000) q) [
        | inl more ↦ let next : k / 10000 + 1 ≤ q = omega arith in absurd (omega (arith, high, all, split, mul-le-mul_right d few, mul-le-mul_right d next))
        | inr fine ↦ omega arith
      ]
    ] in
    let whole : (k / 10000) * d ≡ q * d = ap (λ x. x * d) (sym same) in (
      omega (arith, low, all, split, whole),
      omega (arith, high, all, split, whole),
      (λ t. omega (arith, exact.0 t, all, split, whole), λ z. exact.1 (omega (arith, z, all, split, whole))),
    )

differences : (w d : ℕ) → w < 10000 → (10000 - w) * d + w * d ≡ 10000 * d
differences w d few = let e : 10000 - w + w ≡ 10000 = omega arith in omega (arith, ap (λ x. x * d) e)

-- the nearer end of a number that is w ten-thousandths of d, rounded down
nearer : (r d w x : ℕ) (e : Bool) → 0 < d → r < d → w < 10000 → w * d ≤ 10000 * r → 10000 * r < (w + 1) * d → (IsTrue e ↔ (10000 * r ≡ w * d))
    → x ≡ cond e w (w + 1) → IsCeiling (10000 * min r (d - r)) d (min x (10000 - w))
nearer r d w x true some below few low high exact is =
    let same : 10000 * r ≡ w * d = exact.0 refl in
    elim (cases_lt w 5001) [
      | inl less ↦
          let half : w ≤ 5000 = omega arith in
          let first : min r (d - r) ≡ r = omega (arith, same, mul-le-mul_right d half) in
          let end : min x (10000 - w) ≡ w = omega (arith, is) in
          rw (first, end) (record { low = omega (arith, same); high = omega (arith, same, some) })
      | inr more ↦
          let first : min r (d - r) ≡ d - r = omega (arith, same, mul-le-mul_right d more) in
          let end : min x (10000 - w) ≡ 10000 - w = omega (arith, is) in
          let sum : (10000 - w) * d + w * d ≡ 10000 * d = differences w d few in
          rw (first, end) (record { low = omega (arith, same, sum, below); high = omega (arith, same, sum, some, below) })
    ]
nearer r d w x false some below few low high exact is =
    let less : w * d < 10000 * r = some_more (w * d) (10000 * r) low (λ z. let t = exact.1 z in cc) in
    elim (cases_lt w 5000) [
      | inl under ↦
          let half : w + 1 ≤ 5000 = omega arith in
          let first : min r (d - r) ≡ r = omega (arith, high, mul-le-mul_right d half) in
          let end : min x (10000 - w) ≡ w + 1 = omega (arith, is) in
          rw (first, end) (record { low = omega (arith, high); high = omega (arith, less) })
      | inr more ↦
          let first : min r (d - r) ≡ d - r = omega (arith, low, mul-le-mul_right d more) in
          let end : min x (10000 - w) ≡ 10000 - w = omega (arith, is) in
          let sum : (10000 - w) * d + w * d ≡ 10000 * d = differences w d few in
          rw (first, end) (record { low = omega (arith, low, sum, below); high = omega (arith, high, sum, below) })
    ]
  where
    some_more : (a b : ℕ) → a ≤ b → (b ≡ a → ⊥) → a < b
    some_more a b h different =
        elim (cases_lt a b) [
          | inl less ↦ less
          | inr other ↦ absurd (different (omega arith))
        ]

pub distance_is : (n d k x : ℕ) (e : Bool) → 0 < d → k < 10 ^ 17 → AreTenThousandths n d k e → x ≡ cond e (k % 10000) (k % 10000 + 1)
    → min x (10000 - k % 10000) ≡ rounded_up (10000 * away n d) d
distance_is n d k x e some few h is =
    let rest = rest_is n d k e some h.low (h.high few) (h.is_exact few) in
    one_ceiling (10000 * away n d) d _ _ (nearer (n % d) d (k % 10000) x e some (mod_below n d some) (omega arith) rest.0 rest.1 rest.2 is) (ceiling_of (10000 * away n d) d some)

-- a count that is capped
pub capped : (n d k x : ℕ) (e : Bool) → k * d ≤ 10000 * n → 10000 * n < (k + 1) * d → (IsTrue e ↔ (10000 * n ≡ k * d)) → x ≡ min k (10 ^ 17) → AreTenThousandths n d x e
capped n d k x e low high exact is =
    elim (cases_lt k (10 ^ 17)) [
      | inl few ↦ let same : x ≡ k = omega arith in rw same (record { limit = omega arith; low = low; high = λ _. high; is_exact = λ _. exact })
      | inr many ↦
          let same : x ≡ 10 ^ 17 = omega arith in
          rw same (record {
            limit = omega arith;
            low = omega (arith, low, mul-le-mul_right d many);
            high = λ none. absurd (omega (arith, none));
            is_exact = λ none. absurd (omega (arith, none));
          })
    ]

-- units of which a step has s, rounded down and then divided
in_steps : (n e s t q x : ℕ) (b f : Bool) → 0 < s → 0 < e → t ≡ 10000 * n → IsQuotient t e q → (IsTrue b ↔ (t ≡ q * e)) → (IsTrue f ↔ (IsTrue b × (q % s ≡ 0)))
    → x ≡ min (q / s) (10 ^ 17) → AreTenThousandths n (s * e) x f
in_steps n e s t q x b f some units is quotient exact flag cap =
    let k = q / s in
    let r = q % s in
    let split : q ≡ k * s + r = sym (div-add-mod' q s) in
    let rest : r + 1 ≤ s = omega (arith, mod_below q s some) in
    let all : q * e ≡ k * s * e + r * e = ap (λ x. x * e) split ∙ omega arith in
    capped n (s * e) k x f (omega (arith, is, quotient.low, all)) (omega (arith, is, quotient.high, all, mul-le-mul_right e rest)) (
      λ y. let both = flag.0 y in omega (arith, is, exact.0 both.0, all, ap (λ x. x * e) both.1, zero-mul e),
      λ z.
          let none : r ≡ 0 = nothing r (λ more. let one : 1 ≤ r = omega arith in omega (arith, is, quotient.low, all, z, units, mul-le-mul_right e one)) in
          flag.1 (exact.1 (omega (arith, is, z, all, ap (λ x. x * e) none, zero-mul e)), none),
    ) cap
  where
    nothing : (r : ℕ) → (0 < r → ⊥) → r ≡ 0
    nothing zero h = refl
    nothing (suc k) h = absurd (h (omega arith))

-- a quotient that was capped
in_many_steps : (n e s t q x : ℕ) (f : Bool) → 0 < s → s ≤ 10 ^ 12 → t ≡ 10000 * n → q * e ≤ t → 10 ^ 30 ≤ q → x ≡ min (10 ^ 30 / s) (10 ^ 17) → AreTenThousandths n (s * e) x f
in_many_steps n e s t q x f some limit is low many cap =
    let more : 10 ^ 17 ≤ 10 ^ 30 / s = le-div (10 ^ 17) (10 ^ 30) s some (omega arith) in
    let same : x ≡ 10 ^ 17 = omega arith in
    let most : s * e ≤ 10 ^ 12 * e = mul-le-mul_right e limit in
    rw same (record {
      limit = omega arith;
      low = omega (arith, is, low, most, mul-le-mul_right e many);
      high = λ none. absurd (omega (arith, none));
      is_exact = λ none. absurd (omega (arith, none));
    })

-- the digits of a numeral, with four places more than the step has
pub digits_in_steps : (p : Parts) (size places q x : ℕ) (b f : Bool) → 1 ≤ size → size ≤ 10 ^ 12 → AllDigits 10 (p.whole ++ p.fraction)
    → q ≡ min (floor_of (places + 4) p) (10 ^ 30)
    → (IsTrue b ↔ (digits_value 10 (drop (kept_of (places + 4) p) (p.whole ++ p.fraction)) ≡ 0))
    → (IsTrue f ↔ (IsTrue b × (q % size ≡ 0))) → x ≡ min (q / size) (10 ^ 17)
    → AreTenThousandths (digits_of p * 10 ^ (tens_up p + places)) (size * 10 ^ tens_down p) x f
digits_in_steps p size places q x b f some limit digits floor nothing flag cap =
    let n = digits_of p * 10 ^ (tens_up p + places) in
    let e = 10 ^ tens_down p in
    let units = ten_to_pos (tens_down p) in
    let sum : tens_up p + (places + 4) ≡ tens_up p + places + 4 = omega arith in
    let tens : 10 ^ (tens_up p + (places + 4)) ≡ 10 ^ (tens_up p + places) * 10 ^ 4 = ap (λ k. 10 ^ k) sum ∙ pow-add 10 (tens_up p + places) 4 in
    let more : digits_of p * 10 ^ (tens_up p + (places + 4)) ≡ 10000 * n = omega (arith, ap (λ x. digits_of p * x) tens) in
    let quotient = first_digits_is (p.whole ++ p.fraction) (tens_up p + (places + 4)) (tens_down p) digits in
    let exact = exact_where (p.whole ++ p.fraction) (tens_up p + (places + 4)) (tens_down p) digits in
    elim (cases_lt (floor_of (places + 4) p) (10 ^ 30)) [
      | inl few ↦
          let same : q ≡ floor_of (places + 4) p = omega arith in
          in_steps n e size _ q x b f some units more (subst (λ x. IsQuotient (digits_of p * 10 ^ (tens_up p + (places + 4))) e x) (sym same) quotient)
          (λ t. exact.0 (nothing.0 t) ∙ ap (λ x. x * e) (sym same), λ z. nothing.1 (exact.1 (z ∙ ap (λ x. x * e) same))) flag cap
      | inr many ↦
          let same : q ≡ 10 ^ 30 = omega arith in
          in_many_steps n e size _ (floor_of (places + 4) p) x f some limit more quotient.low many (cap ∙ ap (λ y. min (y / size) (10 ^ 17)) same)
    ]

-- one test after another
pub whole_where : (r : ℕ) (b : Bool) → b ≡ true → IsTrue (nat_eq r 0) ↔ (IsTrue b × (r ≡ 0))
whole_where r b e = rw e (grind (arith, nat_tests))

pub whole_not : (r : ℕ) (b : Bool) → b ≡ false → IsTrue b ↔ (IsTrue b × (r ≡ 0))
whole_not r b e = rw e (λ t. let off = t in absurd (cc), λ both. both.0)

away_zero : (n d : ℕ) → 0 < d → (rounded_up (10000 * away n d) d ≡ 0) ↔ ((k : ℕ) × (n ≡ k * d))
away_zero n d some =
    let split = div-add-mod' n d in
    let below = mod_below n d some in
    let ceiling = ceiling_of (10000 * away n d) d some in (
      λ e. (n / d, omega (arith, split, below, ceiling.low, ap (λ x. x * d) e, zero-mul d)),
      λ p.
          let none : n % d ≡ 0 = one_left (n / d) p.0 d (n % d) 0 below some (omega (arith, split, p.1)) in
          zero_from (rounded_up (10000 * away n d) d) (λ more.
          let one : 1 ≤ rounded_up (10000 * away n d) d = omega arith in
          omega (arith, none, ceiling.high, mul-le-mul_right d one)),
    )
  where
    zero_from : (x : ℕ) → (0 < x → ⊥) → x ≡ 0
    zero_from zero h = refl
    zero_from (suc k) h = absurd (h (omega arith))

pub on_the_grid_is_not_moved : OnTheGridIsNotMoved
on_the_grid_is_not_moved s text h = away_zero (unsigned_abs (dividend s text)) (divisor s text) (some_divisor s text h)
