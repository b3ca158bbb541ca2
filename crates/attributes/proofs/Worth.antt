-- The whole numbers that numerals are worth.
use Rattle.std.proofs.Common.{◌≡◌, ℕ, zero, suc, ◌*◌, ◌/◌, ◌%◌, ◌^◌, ◌<◌, Bool, true, false, cond, not, ◌&&◌, ◌==◌, ℤ, pos, negsuc, ◌*ℤ◌, ◌↔◌, List, [], length, Option, Some, None, inl, inr, refl, sym, ap, ◌∙◌, arith, eq-eqb, lt-ltb, true≢false}
use Rattle.std.proofs.Math.Nat.{mul-div_cancel, mul-mod_left}
use Rattle.std.proofs.lemmas.Bool.{and_from, and_parts, cases_Bool, eqb-true, leb-true, ltb-true, not-true}
use Rattle.std.proofs.lemmas.Int.{ints, unsigned_abs-mul}
use Rattle.std.proofs.lemmas.Nat.{div-add-mod'}
use Rattle.std.specs.Float.{binary64, float_is_finite}
use Rattle.std.specs.Prelude.{nat_le, nat_lt, option_and_then, unsigned_abs, if◌then◌else◌}
use Rattle.std.specs.Str.Parse.{digits_value, starts_with_minus}
use Rattle.fast_float.proofs.ExactLemmas.{ten_to_pos}
use Rattle.fast_float.specs.Text.{Parts, digits_of, nearest, scan, tens_down, tens_up, with_sign}
use Rattle.json.specs.Json as json
use Rattle.numerals.specs.Numeral.{AreEqual, IsNumeral, denominator, numerator, parts_of, unsigned_text}
use Rattle.numerals.specs.Whole.{IsWhole, is_numeral}
use Rattle.numerals.proofs.Nearest.{below_times}
use Rattle.numerals.proofs.Shortness.{none_left}
use Rattle.numerals.proofs.Steps.{sign_times, size_of_sign}
use Rattle.reading.specs.Plain as plain
use Rattle.serde_json.specs.Data.{Num, float, negative, number, unsigned}
use Rattle.serde_json.specs.Find.{as_i64}
use Rattle.serde_json.specs.Read.{float_of, is_integer, number_from, number_of}
use Rattle.attributes.specs.Attributes.{id_of, number_id}
use Rattle.attributes.specs.Laws.{EqualNumeralsAreOneId, EqualNumeralsAreOneNumber}
use Rattle.attributes.specs.Numerals.{in_64_bits, integer_of, number_or_text, number_value, spelled, whole}
use Rattle.attributes.specs.declared.rules.Reals.TheVariants.{Whole}
use Rattle.attributes.proofs.Scaling.{numeral_from, numeral_is}

same_size : (a b d : ℕ) → 0 < d → a * d ≡ b * d → a ≡ b
same_size a b d some e = sym (mul-div_cancel a some) ∙ ap (λ n. n / d) e ∙ mul-div_cancel b some

some_times : (k d : ℕ) → 0 < d → 0 < suc k * d
some_times k d some = omega (arith, some)

cancel : (x y : ℤ) (d : ℕ) → 0 < d → x *ℤ pos d ≡ y *ℤ pos d → x ≡ y
cancel (pos a) (pos b) d some e = ap pos (same_size a b d some (omega (arith, ints, e)))
cancel (pos a) (negsuc b) d some e = absurd (omega (arith, ints, e ∙ below_times (suc b) d, some_times b d some))
cancel (negsuc a) (pos b) d some e = absurd (omega (arith, ints, sym e ∙ below_times (suc a) d, some_times a d some))
cancel (negsuc a) (negsuc b) d some e = ap (with_sign true) (same_size (suc a) (suc b) d some (omega (arith, ints, sym (below_times (suc a) d) ∙ (e ∙ below_times (suc b) d))))

sign_of : (m : Bool) (n d : ℕ) (z : ℤ) → 0 < d → with_sign m n ≡ z *ℤ pos d → n ≡ unsigned_abs z * d → with_sign m (unsigned_abs z) ≡ z
sign_of false n d (pos k) some e size = refl
sign_of false n d (negsuc k) some e size = absurd (omega (arith, ints, e ∙ below_times (suc k) d, some_times k d some))
sign_of true n d (pos zero) some e size = refl
sign_of true n d (pos (suc k)) some e size = absurd (omega (arith, ints, e, size, some_times k d some))
sign_of true n d (negsuc k) some e size = refl

-- a fraction with a sign that is a whole number
whole_quotient : (m : Bool) (n d : ℕ) (z : ℤ) → 0 < d → with_sign m n ≡ z *ℤ pos d → (n % d ≡ 0) × (with_sign m (n / d) ≡ z)
whole_quotient m n d z some e =
    let size : n ≡ unsigned_abs z * d = sym (size_of_sign m n) ∙ ap unsigned_abs e ∙ unsigned_abs-mul z (pos d) in (
      ap (λ k. k % d) size ∙ mul-mod_left (unsigned_abs z) d,
      ap (λ k. with_sign m (k / d)) size ∙ ap (with_sign m) (mul-div_cancel (unsigned_abs z) some) ∙ sign_of m n d z some e size,
    )

quotient_worth : (m : Bool) (n d : ℕ) → n % d ≡ 0 → with_sign m n ≡ with_sign m (n / d) *ℤ pos d
quotient_worth m n d none = ap (with_sign m) (omega (arith, div-add-mod' n d, none)) ∙ sym (sign_times m (n / d) d)

module _ (text : List ℕ) where
  abbrev size : ℕ
  size = digits_of (parts_of text) * 10 ^ tens_up (parts_of text)

  abbrev minus : Bool
  minus = starts_with_minus text

  abbrev under : ℕ
  under = denominator text

  pub some_under : 0 < denominator text
  some_under = ten_to_pos (tens_down (parts_of text))

  abbrev choice : Bool → ℕ → Option ℤ
  choice b n = if b then Some (with_sign minus (n / under)) else None

  by_size : integer_of text ≡ choice (is_numeral text && (size % under == 0)) size
  by_size = ap (λ n. choice (is_numeral text && (n % under == 0)) n) (size_of_sign minus size)

  found : (z : ℤ) (b : Bool) → (is_numeral text && (size % under == 0)) ≡ b → choice b size ≡ Some z → IsNumeral text × (numerator text ≡ z *ℤ pos under)
  found z true test e =
      let parts = and_parts (is_numeral text) (size % under == 0) test in
      let is : with_sign minus (size / under) ≡ z = cc in
      (numeral_from text parts.0, quotient_worth minus size under (eqb-true _ _ parts.1) ∙ ap (λ y. y *ℤ pos under) is)
  found z false test e = absurd (cc)

  exact : (z : ℤ) → IsNumeral text × (numerator text ≡ z *ℤ pos under) → integer_of text ≡ Some z
  exact z h =
      let parts = whole_quotient minus size under z some_under h.1 in
      by_size ∙ ap (λ b. choice b size) (and_from _ _ (numeral_is text h.0) (eq-eqb _ _ parts.0)) ∙ ap Some parts.1

  pub integer_worth : (z : ℤ) → (integer_of text ≡ Some z) ↔ (IsNumeral text × (numerator text ≡ z *ℤ pos under))
  integer_worth z = (λ e. found z _ refl (sym by_size ∙ e), exact z)

swap : (p : ℤ) (a b : ℕ) → (p *ℤ pos a) *ℤ pos b ≡ (p *ℤ pos b) *ℤ pos a
swap (pos q) a b = ap pos (omega arith)
swap (negsuc k) a b = below_times (suc k * a) b ∙ (ap (with_sign true) (omega arith) ∙ sym (below_times (suc k * b) a))

-- ---- numbers of 64 bits

-- the number of a sign and a size that a numeral is worth
pub worth_found : (text : List ℕ) (m : Bool) (n : ℕ) → IsWhole text m n → in_64_bits (with_sign m n) ≡ option_and_then in_64_bits (integer_of text)
worth_found text m n h = sym (ap (option_and_then in_64_bits) ((integer_worth text (with_sign m n)).1 (h.numeral, sym h.worth)))

unless : (b : Bool) (n : Num) → (b ≡ true → ⊥) → None ≡ (if b then Some n else None)
unless true n h = absurd (h refl)
unless false n h = refl

found_none : (text : List ℕ) (o : Option ℤ) → ((m : Bool) (n : ℕ) → IsWhole text m n → ⊥) → integer_of text ≡ o → None ≡ option_and_then in_64_bits o
found_none text None none e = refl
found_none text (Some (pos n)) none e =
    let w = (integer_worth text (pos n)).0 e in
    unless (nat_lt n (2 ^ 64)) (unsigned n) (λ less. none false n (record { numeral = w.0; worth = sym w.1; limit = ltb-true _ _ less; zero = λ _. refl }))
found_none text (Some (negsuc n)) none e =
    let w = (integer_worth text (negsuc n)).0 e in
    unless (nat_lt n (2 ^ 63)) (negative (negsuc n)) (λ less.
    let limit : suc n < 2 ^ 64 = omega (arith, ltb-true _ _ less) in
    let zero : suc n ≡ 0 → true ≡ false = λ z. absurd (omega (arith, z)) in
    none true (suc n) (record { numeral = w.0; worth = sym w.1; limit = limit; zero = zero }))

-- there is none of 64 bits
pub worth_none : (text : List ℕ) → ((m : Bool) (n : ℕ) → IsWhole text m n → ⊥) → None ≡ option_and_then in_64_bits (integer_of text)
worth_none text none = found_none text (integer_of text) none refl

-- ---- numerals of one value

same_integer : (a b : List ℕ) (z : ℤ) → IsNumeral b → AreEqual a b → integer_of a ≡ Some z → integer_of b ≡ Some z
same_integer a b z h same e =
    let given : numerator a ≡ z *ℤ pos (denominator a) = ((integer_worth a z).0 e).1 in
    let product : numerator b *ℤ pos (denominator a) ≡ (z *ℤ pos (denominator b)) *ℤ pos (denominator a) =
    sym same ∙ ap (λ n. n *ℤ pos (denominator b)) given ∙ swap z (denominator a) (denominator b) in
    (integer_worth b z).1 (h, cancel (numerator b) (z *ℤ pos (denominator b)) (denominator a) (some_under a) product)

same_value : (a b : List ℕ) (o : Option ℤ) (n : Num) → IsNumeral b → AreEqual a b → integer_of a ≡ o → number_or_text (option_and_then in_64_bits o) (spelled a) ≡ number n → number_value Whole b ≡ number n
same_value a b None n h same e is = absurd (cc)
same_value a b (Some z) n h same e is = ap (λ i. number_or_text (option_and_then in_64_bits i) (spelled b)) (same_integer a b z h same e) ∙ at (in_64_bits z) is
  where
    at : (o : Option Num) → number_or_text o (spelled a) ≡ number n → number_or_text o (spelled b) ≡ number n
    at None is = absurd (cc)
    at (Some m) is = is

pub one_number : EqualNumeralsAreOneNumber
one_number a b n g h same is = same_value a b (integer_of a) n h same refl is

same_id : (a b : List ℕ) (o : Option ℤ) (z : ℤ) → IsNumeral b → AreEqual a b → integer_of a ≡ o → number_id (option_and_then as_i64 (option_and_then in_64_bits o)) (spelled a) ≡ plain.number z
    → id_of Whole (Some (json.number b)) ≡ plain.number z
same_id a b None z h same e is = absurd (cc)
same_id a b (Some y) z h same e is = ap (λ i. number_id (option_and_then as_i64 (option_and_then in_64_bits i)) (spelled b)) (same_integer a b y h same e) ∙ at (option_and_then as_i64 (in_64_bits y)) is
  where
    at : (o : Option ℤ) → number_id o (spelled a) ≡ plain.number z → number_id o (spelled b) ≡ plain.number z
    at None is = absurd (cc)
    at (Some m) is = is

pub one_id : EqualNumeralsAreOneId
one_id a b z g h same is = same_id a b (integer_of a) z h same refl is

-- ---- whole numbers as they are written

none_unless : (b : Bool) (xs : List ℕ) → b ≡ false → cond b xs [] ≡ []
none_unless true xs e = absurd (true≢false e)
none_unless false xs e = refl

no_fraction : (u : List ℕ) → (scan u).point ≡ false → (scan u).fraction ≡ []
unfolding scan
no_fraction u e = none_unless _ _ e

no_power : (negative : Bool) (ds : List ℕ) → ds ≡ [] → ((if negative then 0 else digits_value 10 ds) ≡ 0) × ((if negative then digits_value 10 ds else 0) ≡ 0)
no_power true ds e = (refl, ap (digits_value 10) e)
no_power false ds e = (ap (digits_value 10) e, refl)

no_tens : (u : List ℕ) → is_integer (scan u) ≡ true → (tens_up (scan u) ≡ 0) × (tens_down (scan u) ≡ 0)
no_tens u e =
    let last = and_parts (nat_lt 0 (length (scan u).whole) && not (scan u).point) (length (scan u).exponent == 0) e in
    let first = and_parts (nat_lt 0 (length (scan u).whole)) (not (scan u).point) last.0 in
    let power = no_power (scan u).exponent_negative (scan u).exponent (none_left (scan u).exponent last.1) in
    (power.0, omega (arith, ap length (no_fraction u (not-true (scan u).point first.1)), power.1))

signed : (text : List ℕ) → number_of text ≡ number_from (starts_with_minus text) (parts_of text)
unfolding number_of
signed text = elim (cases_Bool (starts_with_minus text)) [ inl t ↦ rw t refl | inr f ↦ rw f refl ]

not_float : (m : Bool) (p : Parts) (n : Num) → whole (float_of m p) ≡ Some n → ⊥
not_float m p n e = at (float_is_finite (nearest binary64 m p)) e
  where
    at : (b : Bool) → whole (if b then Some (float (nearest binary64 m p)) else None) ≡ Some n → ⊥
    at true f = cc
    at false f = cc

below : (d : ℕ) (n : Num) → nat_lt 0 d ≡ true → nat_le d (2 ^ 63) ≡ true → Some (negative (with_sign true d)) ≡ Some n → in_64_bits (with_sign true d) ≡ Some n
below zero n some most e = absurd (true≢false (sym some))
below (suc k) n some most e = let less : k < 2 ^ 63 = omega (arith, leb-true _ _ most) in rw (lt-ltb _ _ less) e

units : (m : Bool) (n up down : ℕ) → up ≡ 0 → down ≡ 0 → with_sign m (n * 10 ^ up) ≡ with_sign m n *ℤ pos (10 ^ down)
units m n up down e f = ap (λ k. with_sign m (n * 10 ^ k)) e ∙ sym (sign_times m n 1) ∙ sym (ap (λ k. with_sign m n *ℤ pos (10 ^ k)) f)

written_from : (m : Bool) (p : Parts) (n : Num) → whole (number_from m p) ≡ Some n → (is_integer p ≡ true) × (in_64_bits (with_sign m (digits_of p)) ≡ Some n)
written_from false p n e = elim (cases_Bool (is_integer p && nat_lt (digits_of p) (2 ^ 64))) [
  | inl t ↦ let parts = and_parts _ _ t in (parts.0, rw parts.1 (rw t at e))
  | inr f ↦ absurd (not_float false p n (rw f at e))
]
written_from true p n e = elim (cases_Bool (is_integer p && nat_lt 0 (digits_of p) && nat_le (digits_of p) (2 ^ 63))) [
  | inl t ↦
      let last = and_parts (is_integer p && nat_lt 0 (digits_of p)) (nat_le (digits_of p) (2 ^ 63)) t in
      let first = and_parts (is_integer p) (nat_lt 0 (digits_of p)) last.0 in
      (first.0, below (digits_of p) n first.1 last.1 (rw t at e))
  | inr f ↦ absurd (not_float true p n (rw f at e))
]

pub written_is_worth : (text : List ℕ) (n : Num) → IsNumeral text → whole (number_of text) ≡ Some n → option_and_then in_64_bits (integer_of text) ≡ Some n
written_is_worth text n h e =
    let m = starts_with_minus text in
    let p = parts_of text in
    let parts = written_from m p n (ap whole (sym (signed text)) ∙ e) in
    let tens = no_tens (unsigned_text text) parts.0 in
    let value : numerator text ≡ with_sign m (digits_of p) *ℤ pos (denominator text) = units m (digits_of p) (tens_up p) (tens_down p) tens.0 tens.1 in
    ap (option_and_then in_64_bits) ((integer_worth text (with_sign m (digits_of p))).1 (h, value)) ∙ parts.1
