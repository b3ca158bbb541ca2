-- Texts of digits as numbers.
use Rattle.std.proofs.Common.{◌≡◌, ℕ, zero, suc, pos, neg_ℤ, ◌+◌, ◌^◌, ◌%◌, ◌<◌, ◌≤◌, List, [], ◌∷◌, ◌++◌, length, take, drop, get_or, true, false, true≢false, Option, Some, None, is_some, refl, sym, ap, ◌∙◌, arith, append-nil, lt-ltb, le-leb, ne_eqb, w64, to_z, of_z, ◌-ℤ◌, unsigned_abs, FitsSigned}
use Rattle.std.specs.Str.Parse.{AllDigits, digits_value}
use Rattle.std.proofs.Math.Facts.{to_z_pos}
use Rattle.std.proofs.lemmas.Int.{ints, fits_signed_from_abs, to_z-of_z}
use Rattle.std.specs.Char.{digit_value}
use Rattle.std.proofs.lemmas.Str.{digit_value_digit}
use Rattle.std.proofs.lemmas.Str.Parse.{IsNumeralModel, digits_value_short}
use Rattle.std.proofs.lemmas.List.{length-take}
use Rattle.fast_float.specs.Text.{Parts, scan, digits_of, IsWellFormed}
use Rattle.fast_float.proofs.Writing.{scan-text_of}
use Rattle.serde_json.specs.Data.{Num, unsigned, negative}
use Rattle.serde_json.specs.Find.{as_i64, of_integer}
use Rattle.serde_json.specs.Read.{number_of, is_integer}

some_of : {X : Type 0} (o : Option X) → true ≡ is_some o → (x : X) × (o ≡ Some x)
some_of None e = absurd (true≢false e)
some_of (Some x) e = (x, refl)

abbrev digits : List ℕ → Parts
digits ds = record { whole = ds; point = false; fraction = []; exponent_negative = false; exponent = []; len = length (ds ++ []) }

scan-digits : (ds : List ℕ) → AllDigits 10 ds → scan ds ≡ digits ds
scan-digits ds h =
    let formed : IsWellFormed (digits ds) = record { whole_digits = h; fraction_digits = tt; exponent_digits = tt; no_point = λ _. refl; no_exponent = λ _. refl; len_is = refl } in
    ap scan (sym (append-nil ds)) ∙ scan-text_of (digits ds) formed

integer : (ds : List ℕ) → 0 < length ds → is_integer (digits ds) ≡ true
integer ds some = rw (lt-ltb _ _ some) refl

value_is : (ds : List ℕ) → digits_of (digits ds) ≡ digits_value 10 ds
value_is ds = ap (digits_value 10) (append-nil ds)

no_minus : (ds : List ℕ) → AllDigits 10 ds → 0 < length ds → get_or ds 0 0 ≡ 45 → ⊥
no_minus [] h some e = omega arith
no_minus (d ∷ ds) h some e = let digit : digit_value d < 10 = h.0 in let is : d ≡ 45 = e in grind arith

pub positive : (ds : List ℕ) (n : ℕ) → AllDigits 10 ds → 0 < length ds → n ≡ digits_value 10 ds → n < 10 ^ 18 → number_of ds ≡ Some (unsigned n)
unfolding number_of
positive ds n h some e small =
    let fits : digits_value 10 ds < 2 ^ 64 = omega (arith, e, small) in
    rw (ne_eqb (get_or ds 0 0) 45 (no_minus ds h some), scan-digits ds h, integer ds some, value_is ds, lt-ltb _ _ fits) (ap (λ k. Some (unsigned k)) (sym e))

pub below : (s : List ℕ) (n : ℕ) → get_or s 0 0 ≡ 45 → AllDigits 10 (drop 1 s) → 0 < length (drop 1 s) → n ≡ digits_value 10 (drop 1 s) → 0 < n → n < 10 ^ 18 → number_of s ≡ Some (negative (neg_ℤ (pos n)))
unfolding number_of
below s n minus h some e more small =
    let ds = drop 1 s in
    let above : 0 < digits_value 10 ds = omega (arith, e, more) in
    let fits : digits_value 10 ds ≤ 2 ^ 63 = omega (arith, e, small) in
    rw (minus, scan-digits ds h, integer ds some, value_is ds, lt-ltb _ _ above, le-leb _ _ fits) (ap (λ k. Some (negative (neg_ℤ (pos k)))) (sym e))

pub as_i64-few : (n : ℕ) → n < 10 ^ 18 → as_i64 (unsigned n) ≡ Some (pos n)
as_i64-few n small = let fits : n < 2 ^ 63 = omega (arith, small) in rw (lt-ltb _ _ fits) refl

-- ---- digit by digit

own : IsNumeralModel (AllDigits 10) (digits_value 10)
own = record { to = λ ds h. h; from = λ ds h. h; same = λ ds h. refl }

pub short : (ds : List ℕ) (i k : ℕ) → AllDigits 10 (take i ds) → i ≤ k → digits_value 10 (take i ds) < 10 ^ k
short ds i k h le = digits_value_short own (take i ds) k h (omega (arith, length-take i ds))

-- a byte less the code of 0
pub digit : (c : ℕ) → c < 256 → (c + 208) % 256 ≤ 9 → (digit_value c < 10) × (digit_value c ≡ (c + 208) % 256)
digit c byte le =
    let low : 48 ≤ c = omega arith in
    let high : c ≤ 57 = omega arith in
    let is = digit_value_digit c (low, high) in
    (omega (arith, is), omega (arith, is))

pub seen_positive : (n : ℕ) → n < 10 ^ 18 → pos n ≡ to_z w64 n
seen_positive n small = let half : n < 2 ^ 63 = omega (arith, small) in sym (to_z_pos w64 half)

pub seen_below : (n : ℕ) → n < 10 ^ 18 → neg_ℤ (pos n) ≡ to_z w64 (of_z w64 (pos 0 -ℤ to_z w64 n))
seen_below n small =
    let negated : pos 0 -ℤ pos n ≡ neg_ℤ (pos n) = grind (arith, ints) in
    let size : unsigned_abs (neg_ℤ (pos n)) ≡ n = grind (arith, ints) in
    let fits : FitsSigned w64 (neg_ℤ (pos n)) = fits_signed_from_abs w64 _ (omega (arith, size, small)) in
    sym (to_z-of_z w64 _ fits) ∙ ap (λ z. to_z w64 (of_z w64 z)) (sym negated ∙ ap (λ z. pos 0 -ℤ z) (seen_positive n small))

pub of_integer-below : (n : ℕ) → 0 < n → negative (neg_ℤ (pos n)) ≡ of_integer (neg_ℤ (pos n))
of_integer-below zero more = absurd (omega arith)
of_integer-below (suc n) more = refl

pub as_i64-below : (n : ℕ) → 0 < n → as_i64 (of_integer (neg_ℤ (pos n))) ≡ Some (neg_ℤ (pos n))
as_i64-below zero more = absurd (omega arith)
as_i64-below (suc n) more = refl

-- ---- any number

pub some_number : (s : List ℕ) → true ≡ is_some (number_of s) → (m : Num) × (number_of s ≡ Some m)
some_number s e = some_of (number_of s) e

pub size_below : (n : ℕ) → unsigned_abs (neg_ℤ (pos n)) ≡ n
size_below zero = refl
size_below (suc n) = refl
