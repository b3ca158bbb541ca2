-- Numerals, and the whole numbers of steps that are nearest to them.
use Rattle.std.proofs.Common.{◌≡◌, ℕ, zero, suc, ◌+◌, ◌*◌, ◌/◌, ◌^◌, ◌<◌, ◌≤◌, min, Bool, true, false, ◌&&◌, nat_eq, nat_le, ℤ, List, [], length, Some, refl, sym, ap, ◌∙◌, subst, arith, le-leb, leb-true, if◌then◌else◌, eq-eqb, eqb-true, mul-le-mul_right, unsigned_abs}
use Rattle.std.proofs.lemmas.Nat.{div-add-mod', mod_below}
use Rattle.std.specs.Str.Parse.{starts_with_minus}
use Rattle.fast_float.proofs.ExactLemmas.{ten_to_pos}
use Rattle.fast_float.specs.Text.{digits_of, has_digits, tens_up, tens_down, with_sign}
use Rattle.json.specs.Json.{Json, null, boolean, number, string, array, object}
use Rattle.json.specs.Find.{as_number}
use Rattle.faults.specs.declared.fault.FaultKind.TheVariants.{OutOfRange}
use Rattle.grid.specs.Place.{IsGridNumber}
use Rattle.grid.proofs.Judged.{both_first, both_second}
use Rattle.numerals.specs.Nearest.{IsNearest, IsRounded}
use Rattle.numerals.specs.Numeral.{Measure, IsMeasure, IsNumeral, IsSnapped, dividend, divisor, parts_of, unsigned_text}
use Rattle.numerals.proofs.Nearest.{from_nearest, one_rounded}
use Rattle.numerals.proofs.Steps.{dividend_is, grid_size, signed_nearest}
use Rattle.reading.specs.Fault.{here}
use Rattle.decimal_faults.specs.Positions.{steps_of, nearest_of, is_numeral, number_faults}

size_of_sign : (b : Bool) (n : ℕ) → unsigned_abs (with_sign b n) ≡ n
size_of_sign false n = refl
size_of_sign true zero = refl
size_of_sign true (suc n) = refl

some_divisor : (s : Measure) (text : List ℕ) → IsMeasure s → 0 < divisor s text
some_divisor s text h = omega (arith, mul-le-mul_right (10 ^ tens_down (parts_of text)) h.some, ten_to_pos (tens_down (parts_of text)))

-- halves over twice the size, rounded down
halves : (n d : ℕ) → 0 < d → IsRounded n d ((n * 2 + d) / (d * 2))
halves n d some =
    let q = (n * 2 + d) / (d * 2) in
    let split = div-add-mod' (n * 2 + d) (d * 2) in
    let rest = mod_below (n * 2 + d) (d * 2) (omega arith) in
    record { low = omega (arith, split, rest); high = omega (arith, split, rest) }

abbrev size : Measure → List ℕ → ℕ
size s text = digits_of (parts_of text) * 10 ^ (tens_up (parts_of text) + s.places)

rounded : (s : Measure) (text : List ℕ) → IsMeasure s → IsRounded (size s text) (divisor s text) (steps_of s text)
unfolding steps_of
rounded s text h =
    let same : unsigned_abs (dividend s text) ≡ size s text = ap unsigned_abs (sym (dividend_is text s)) ∙ size_of_sign (starts_with_minus text) (size s text) in
    subst (λ n. IsRounded (size s text) (divisor s text) ((n * 2 + divisor s text) / (divisor s text * 2))) (sym same) (halves (size s text) (divisor s text) (some_divisor s text h))

-- the number of steps that is nearest
pub snapped : (s : Measure) (text : List ℕ) (p : ℤ) → IsMeasure s → IsSnapped s text p → (unsigned_abs p ≡ steps_of s text) × (p ≡ nearest_of s text)
unfolding nearest_of
snapped s text p h a =
    let b = from_nearest (starts_with_minus text) (size s text) (divisor s text) p (some_divisor s text h) (subst (λ d. IsNearest d (divisor s text) p) (sym (dividend_is text s)) a) in
    let same = one_rounded (size s text) (divisor s text) (unsigned_abs p) (steps_of s text) b.0 (rounded s text h) in
    (same, b.1 ∙ ap (with_sign (starts_with_minus text)) same)

-- a number of steps within the limits is a position
snaps : (s : Measure) (text : List ℕ) → IsMeasure s → steps_of s text ≤ 2 ^ 40 → (p : ℤ) × IsSnapped s text p × IsGridNumber p
snaps s text h within =
    let a = (signed_nearest (starts_with_minus text) (size s text) (divisor s text) (steps_of s text) (with_sign (starts_with_minus text) (steps_of s text)) (some_divisor s text h) (rounded s text h) within).0 refl in
    (with_sign (starts_with_minus text) (steps_of s text), subst (λ d. IsNearest d (divisor s text) (with_sign (starts_with_minus text) (steps_of s text))) (dividend_is text s) a.0, a.1)

-- ---- whether a text is a numeral

pub numeral_test : (text : List ℕ) → IsNumeral text → is_numeral text ≡ true
numeral_test text h = rw (h.digits) (eq-eqb (parts_of text).len (length (unsigned_text text)) h.complete)

numeral_by_test : (text : List ℕ) → is_numeral text ≡ true → IsNumeral text
numeral_by_test text e = record {
  digits = both_first (has_digits (parts_of text)) (nat_eq (parts_of text).len (length (unsigned_text text))) e;
  complete = eqb-true (parts_of text).len (length (unsigned_text text)) (both_second (has_digits (parts_of text)) (nat_eq (parts_of text).len (length (unsigned_text text))) e);
}

-- ---- the faults of a numeral

pub number_sound : (s : Measure) (greatest : ℕ) (text : List ℕ) (n : ℤ) → IsMeasure s → IsNumeral text → IsSnapped s text n → IsGridNumber n → unsigned_abs n ≤ greatest → number_faults s greatest text ≡ []
unfolding number_faults
number_sound s greatest text n h a b c d =
    let near = (snapped s text n h b).0 in
    let test : nat_le (steps_of s text) (min greatest (2 ^ 40)) ≡ true = le-leb _ _ (omega (arith, near, grid_size n c)) in
    rw (numeral_test text a, test) refl

-- a numeral without a fault has a nearest whole number of steps within the limits
pub number_found : (s : Measure) (greatest : ℕ) (text : List ℕ) → IsMeasure s → number_faults s greatest text ≡ [] →
    (p : ℤ) × (IsSnapped s text p × (unsigned_abs p ≤ greatest) × IsNumeral text) × IsGridNumber p
unfolding number_faults
number_found s greatest text h e = go (is_numeral text) (nat_le (steps_of s text) (min greatest (2 ^ 40))) refl refl e
  where
    go : (b c : Bool) → is_numeral text ≡ b → nat_le (steps_of s text) (min greatest (2 ^ 40)) ≡ c → (if b && c then [] else here OutOfRange) ≡ [] →
        (p : ℤ) × (IsSnapped s text p × (unsigned_abs p ≤ greatest) × IsNumeral text) × IsGridNumber p
    go false c d f k = absurd cc
    go true false d f k = absurd cc
    go true true d f k =
        let within = leb-true _ _ f in
        let near = snaps s text h (omega (arith, within)) in
        (near.0, (near.1, omega (arith, within, (snapped s text near.0 h near.1).0), numeral_by_test text d), near.2)

-- one that has none is out of range
pub number_refused : (s : Measure) (greatest : ℕ) (text : List ℕ) → IsMeasure s → ((p : ℤ) → IsSnapped s text p × (unsigned_abs p ≤ greatest) × IsNumeral text → IsGridNumber p → ⊥) →
    number_faults s greatest text ≡ here OutOfRange
unfolding number_faults
number_refused s greatest text h none = go (is_numeral text && nat_le (steps_of s text) (min greatest (2 ^ 40))) refl
  where
    go : (b : Bool) → (is_numeral text && nat_le (steps_of s text) (min greatest (2 ^ 40))) ≡ b → (if b then [] else here OutOfRange) ≡ here OutOfRange
    go false e = refl
    go true e = let f = number_found s greatest text h (ap (λ b. if b then [] else here OutOfRange) e) in absurd (none f.0 f.1 f.2)

-- ---- numbers of JSON

pub number_is : (j : Json) (text : List ℕ) → as_number j ≡ Some text → j ≡ number text
number_is null text e = cc
number_is (boolean b) text e = cc
number_is (number s) text e = let same : s ≡ text = cc in ap number same
number_is (string s) text e = cc
number_is (array js) text e = cc
number_is (object ms) text e = cc
