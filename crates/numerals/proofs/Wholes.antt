-- Numerals that are worth whole numbers.
use Rattle.std.proofs.Common.{◌≡◌, ◌↔◌, ℕ, zero, suc, ◌+◌, ◌-◌, ◌*◌, ◌/◌, ◌%◌, ◌^◌, ◌<◌, ◌≤◌, Bool, true, false, nat_lt, IsTrue, ℤ, pos, negsuc, ◌*ℤ◌, List, ◌++◌, length, Option, Some, None, inl, inr, refl, sym, subst, ap, ◌∙◌, arith, length-append, mul-le-mul_right, zero-mul}
use Rattle.std.proofs.lemmas.Bool.{cases_lt}
use Rattle.std.proofs.lemmas.Bool.Decides.{nat_tests}
use Rattle.std.proofs.lemmas.Int.{ints}
use Rattle.std.proofs.lemmas.Nat.{div-add-mod'}
use Rattle.std.specs.Option.{SomeIff}
use Rattle.std.specs.Prelude.{unsigned_abs, ◌==◌, ◌&&◌}
use Rattle.std.specs.Str.Parse.{AllDigits, starts_with_minus}
use Rattle.fast_float.proofs.ExactLemmas.{ten_to_pos}
use Rattle.fast_float.specs.Text.{Parts, scan, digits_of, tens_up, tens_down, has_digits, point_at, with_sign}
use Rattle.fast_float.specs.Text as text
use Rattle.numerals.specs.Laws.{EqualNumeralsAreWholeAlike}
use Rattle.numerals.specs.Numeral.{IsNumeral, IsUnsigned, denominator, numerator, parts_of, unsigned_text}
use Rattle.numerals.specs.Whole.{IsWhole, is_numeral, numeral_size, whole_of}
use Rattle.numerals.proofs.Fractions.{quotient_is, same_without}
use Rattle.numerals.proofs.Keeping.{swap}
use Rattle.numerals.proofs.Nearest.{below_times}
use Rattle.numerals.proofs.Places.{exact_where, first_digits_is}
use Rattle.numerals.proofs.Steps.{sign_times, size_of_sign}

point_is : (p : Parts) → point_at p ≡ length (p.whole ++ p.fraction) + tens_up p - tens_down p
point_is p = by_sign p p.exponent_negative refl
  where
    by_sign : (p : Parts) (b : Bool) → p.exponent_negative ≡ b → point_at p ≡ length (p.whole ++ p.fraction) + tens_up p - tens_down p
    by_sign p true e = rw e (omega (arith, length-append p.whole p.fraction))
    by_sign p false e = rw e (omega (arith, length-append p.whole p.fraction))

-- the digits are worth a whole number exactly where none is left behind the point
whole_is : (p : Parts) (k : ℕ) → AllDigits 10 (p.whole ++ p.fraction) → (k * 10 ^ tens_down p ≡ digits_of p * 10 ^ tens_up p) ↔ (text.IsWhole p × (text.whole_of p ≡ k))
whole_is p k digits =
    let ds = p.whole ++ p.fraction in
    let quotient = rw (← point_is p) at (first_digits_is ds (tens_up p) (tens_down p) digits) in
    let exact = rw (← point_is p) at (exact_where ds (tens_up p) (tens_down p) digits) in
    let tens = ten_to_pos (tens_down p) in (
      λ e.
          let same : text.whole_of p ≡ k = one_quotient (10 ^ tens_down p) k (text.whole_of p) tens (omega (arith, quotient.low, e)) (omega (arith, quotient.high, e)) in
          (exact.1 (sym e ∙ ap (λ x. x * 10 ^ tens_down p) (sym same)), same),
      λ b. ap (λ x. x * 10 ^ tens_down p) (sym b.1) ∙ sym (exact.0 b.0),
    )
  where
    one_quotient : (t k q : ℕ) → 0 < t → q * t ≤ k * t → k * t < (q + 1) * t → q ≡ k
    one_quotient t k q some low high =
        elim (cases_lt q k) [
          | inl less ↦ let next : q + 1 ≤ k = omega arith in absurd (omega (arith, high, mul-le-mul_right t next))
          | inr more ↦ elim (cases_lt k q) [
            | inl less ↦ let next : k + 1 ≤ q = omega arith in absurd (omega (arith, some, low, mul-le-mul_right t next))
            | inr fine ↦ omega arith
          ]
        ]

pub long_whole : (u : List ℕ) (r : Option ℕ) (k : ℕ) → IsUnsigned u → AllDigits 10 ((scan u).whole ++ (scan u).fraction)
    → SomeIff r (text.IsWhole (scan u) × (text.whole_of (scan u) < 2 ^ 64)) (text.whole_of (scan u))
    → (r ≡ Some k) ↔ (IsUnsigned u × (k * 10 ^ tens_down (scan u) ≡ digits_of (scan u) * 10 ^ tens_up (scan u)) × (k < 2 ^ 64))
long_whole u None k unsigned digits h = (
  λ e. absurd cc,
  λ b. let w = (whole_is (scan u) k digits).0 b.1 in absurd (h (w.0, omega (arith, w.1, b.2))),
)
long_whole u (Some x) k unsigned digits h = (
  λ e.
      let same : x ≡ k = cc in
      (unsigned, (whole_is (scan u) k digits).1 (h.0.0, sym h.1 ∙ same), omega (arith, h.1, same, h.0.1)),
  λ b. ap Some (h.1 ∙ ((whole_is (scan u) k digits).0 b.1).1),
)

-- the sign of 0 is left out
abbrev pub IsSignOf : List ℕ → ℕ → Bool → Type 0
IsSignOf text size b = (0 < size → b ≡ starts_with_minus text) × (size ≡ 0 → b ≡ false)

signed_worth : (m b : Bool) (s d : ℕ) → (0 < s → b ≡ m) → with_sign b s *ℤ pos d ≡ with_sign m (s * d)
signed_worth m b zero d h = sign_times b 0 d ∙ rw (zero-mul d) (no_sign b m)
  where
    no_sign : (b m : Bool) → with_sign b 0 ≡ with_sign m 0
    no_sign false false = refl
    no_sign false true = refl
    no_sign true false = refl
    no_sign true true = refl
signed_worth m b (suc s) d h = let some : 0 < suc s = omega arith in rw (h some) (sign_times m (suc s) d)

one_sign : (m b : Bool) (n : ℕ) → 0 < n → with_sign b n ≡ with_sign m n → b ≡ m
one_sign false false n some e = refl
one_sign true true n some e = refl
one_sign false true n some e = absurd (omega (arith, ints, some, e))
one_sign true false n some e = absurd (omega (arith, ints, some, e))

abbrev pub sized : Bool → ℕ → Option (Bool × ℕ)
sized b n = Some (b, n)

sized_parts : (b c : Bool) (m n : ℕ) → sized b m ≡ sized c n → (b ≡ c) × (m ≡ n)
sized_parts b c m n e = (ap first e, ap second e)
  where
    first : Option (Bool × ℕ) → Bool
    first None = false
    first (Some q) = q.0

    second : Option (Bool × ℕ) → ℕ
    second None = 0
    second (Some q) = q.1

-- a numeral that is worth a whole number passes each test
conditions : (a : List ℕ) → IsNumeral a → numeral_size a % denominator a ≡ 0 → numeral_size a / denominator a < 2 ^ 64
    → (is_numeral a && numeral_size a % denominator a == 0 && nat_lt (numeral_size a / denominator a) (2 ^ 64)) ≡ true
conditions a numeral none few = all (numeral_size a % denominator a) (numeral_size a / denominator a) (has_digits (parts_of a)) (parts_of a).len (length (unsigned_text a)) numeral.digits numeral.complete none few
  where
    all : (r q : ℕ) (b : Bool) (m n : ℕ) → IsTrue b → m ≡ n → r ≡ 0 → q < 2 ^ 64 → ((b && m == n) && r == 0 && nat_lt q (2 ^ 64)) ≡ true
    all r q b m n some same none few = grind (arith, nat_tests)

-- and one that passes each test is worth a whole number
passed : (a : List ℕ) → (is_numeral a && numeral_size a % denominator a == 0 && nat_lt (numeral_size a / denominator a) (2 ^ 64)) ≡ true
    → IsNumeral a × (numeral_size a % denominator a ≡ 0) × (numeral_size a / denominator a < 2 ^ 64)
passed a e =
    let parts = all (numeral_size a % denominator a) (numeral_size a / denominator a) (has_digits (parts_of a)) (parts_of a).len (length (unsigned_text a)) e in
    (record { digits = parts.0; complete = parts.1 }, parts.2, parts.3)
  where
    all : (r q : ℕ) (b : Bool) (m n : ℕ) → ((b && m == n) && r == 0 && nat_lt q (2 ^ 64)) ≡ true → IsTrue b × (m ≡ n) × (r ≡ 0) × (q < 2 ^ 64)
    all r q b m n e = grind (arith, nat_tests)

module _ (text : List ℕ) (numeral : IsNumeral text) (s : ℕ) (b : Bool) (fits : s < 2 ^ 64) (worth : s * denominator text ≡ numeral_size text) (sign : IsSignOf text s b) where
  found_whole : IsWhole text b s
  found_whole = record {
    numeral = numeral;
    worth = signed_worth (starts_with_minus text) b s (denominator text) sign.0 ∙ ap (with_sign (starts_with_minus text)) worth;
    limit = fits;
    zero = sign.1;
  }

  only_whole : (n : Bool) (k : ℕ) → IsWhole text n k → (b ≡ n) × (s ≡ k)
  only_whole n k w =
      let d = denominator text in
      let tens : 0 < d = ten_to_pos (tens_down (parts_of text)) in
      let whole : with_sign n (k * d) ≡ with_sign (starts_with_minus text) (s * d) = sym (sign_times n k d) ∙ w.worth ∙ ap (with_sign (starts_with_minus text)) (sym worth) in
      let size : k * d ≡ s * d = sym (size_of_sign n (k * d)) ∙ ap unsigned_abs whole ∙ size_of_sign (starts_with_minus text) (s * d) in
      let same : k ≡ s = same_without k s d tens size in (
        elim (cases_lt 0 s) [
          | inl some ↦
              let one : 1 ≤ s = omega arith in
              let more : 0 < s * d = omega (arith, tens, mul-le-mul_right d one) in
              sign.0 some ∙ sym (one_sign (starts_with_minus text) n (s * d) more (ap (with_sign n) (sym size) ∙ whole))
          | inr none ↦ sign.1 (omega arith) ∙ sym (w.zero (omega (arith, same)))
        ],
        sym same,
      )

  pub is_whole : (n : Bool) (k : ℕ) → (sized b s ≡ sized n k) ↔ IsWhole text n k
  is_whole n k = (
    λ e. let same = sized_parts b n s k e in subst (λ x. IsWhole text x k) same.0 (subst (λ x. IsWhole text b x) same.1 found_whole),
    λ w. let same = only_whole n k w in (λ i. sized (same.0 i) (same.1 i)),
  )

  pub whole_is_given : sized b s ≡ whole_of text
  whole_is_given =
      let d = denominator text in
      let tens : 0 < d = ten_to_pos (tens_down (parts_of text)) in
      let size : numeral_size text / d ≡ s = quotient_is (numeral_size text) d s tens (sym worth) in
      let none : numeral_size text % d ≡ 0 = omega (arith, div-add-mod' (numeral_size text) d, worth, ap (λ x. x * d) size) in
      let few : numeral_size text / d < 2 ^ 64 = omega (arith, size, fits) in
      let all : (is_numeral text && numeral_size text % d == 0 && nat_lt (numeral_size text / d) (2 ^ 64)) ≡ true = conditions text numeral none few in
      rw (all, size) (λ i. sized (sign_is s (starts_with_minus text) b sign.0 sign.1 i) s)
    where
      sign_is : (s : ℕ) (m b : Bool) → (0 < s → b ≡ m) → (s ≡ 0 → b ≡ false) → b ≡ (m && nat_lt 0 s)
      sign_is zero m b some none = none refl ∙ grind (arith, nat_tests)
      sign_is (suc s) m b some none = some (omega arith) ∙ grind (arith, nat_tests)

abbrev pub no_size : Option (Bool × ℕ)
no_size = None

-- no whole number
module _ (a : List ℕ) (none : (k : ℕ) → IsUnsigned (unsigned_text a) → k * denominator a ≡ numeral_size a → k < 2 ^ 64 → ⊥) where
  pub not_whole : (n : Bool) (k : ℕ) → IsWhole a n k → ⊥
  not_whole n k w =
      let size : k * denominator a ≡ numeral_size a =
      sym (size_of_sign n (k * denominator a)) ∙ ap unsigned_abs (sym (sign_times n k (denominator a)) ∙ w.worth) ∙ size_of_sign (starts_with_minus a) (numeral_size a) in
      none k (record { digits = w.numeral.digits; complete = w.numeral.complete }) size w.limit

  pub no_whole_given : no_size ≡ whole_of a
  no_whole_given = by_test (is_numeral a && numeral_size a % denominator a == 0 && nat_lt (numeral_size a / denominator a) (2 ^ 64)) refl
    where
      by_test : (b : Bool) → (is_numeral a && numeral_size a % denominator a == 0 && nat_lt (numeral_size a / denominator a) (2 ^ 64)) ≡ b → no_size ≡ whole_of a
      by_test false e = rw e refl
      by_test true e =
          let parts = passed a e in
          absurd (none (numeral_size a / denominator a) (record { digits = parts.0.digits; complete = parts.0.complete })
          (omega (arith, div-add-mod' (numeral_size a) (denominator a), parts.1)) parts.2)

int_without : (x y : ℤ) (k : ℕ) → 0 < k → x *ℤ pos k ≡ y *ℤ pos k → x ≡ y
int_without (pos m) (pos n) k some e = ap pos (same_without m n k some (omega (arith, ints, e)))
int_without (pos m) (negsuc n) k some e =
    let one : 1 ≤ suc n = omega arith in
    absurd (omega (arith, ints, some, e ∙ below_times (suc n) k, mul-le-mul_right k one))
int_without (negsuc m) (pos n) k some e =
    let one : 1 ≤ suc m = omega arith in
    absurd (omega (arith, ints, some, sym (below_times (suc m) k) ∙ e, mul-le-mul_right k one))
int_without (negsuc m) (negsuc n) k some e =
    let same : suc m ≡ suc n = same_without (suc m) (suc n) k some (omega (arith, ints, sym (below_times (suc m) k) ∙ e ∙ below_times (suc n) k)) in
    ap (with_sign true) same

-- numerals that are worth the same are the same whole number
pub equal_numerals_are_whole_alike : EqualNumeralsAreWholeAlike
equal_numerals_are_whole_alike a b n k numeral same w = record {
  numeral = numeral;
  worth = one_numerator (with_sign n k) (denominator a) (denominator b) (numerator a) (numerator b) (ten_to_pos (tens_down (parts_of a))) w.worth same;
  limit = w.limit;
  zero = w.zero;
}
  where
    one_numerator : (z : ℤ) (d e : ℕ) (m n : ℤ) → 0 < d → z *ℤ pos d ≡ m → m *ℤ pos e ≡ n *ℤ pos d → z *ℤ pos e ≡ n
    one_numerator z d e m n some is same = int_without (z *ℤ pos e) n d some (swap z e d ∙ ap (λ x. x *ℤ pos e) is ∙ same)
