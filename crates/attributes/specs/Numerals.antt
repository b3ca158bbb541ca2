-- Numerals as whole numbers, and as texts.
use Rattle.std.specs.Prelude.{ℕ, zero, suc, ℤ, pos, negsuc, unsigned_abs, ◌+◌, ◌*◌, ◌/◌, ◌%◌, ◌^◌, Bool, ◌==◌, ◌&&◌, nat_le, nat_lt, List, length, take, slice_index, Option, Some, None, option_and_then, if◌then◌else◌}
use Rattle.std.specs.Str.Parse.{starts_with_minus}
use Rattle.fast_float.specs.Text.{digits_of, tens_up, tens_down, with_sign}
use Rattle.serde_json.specs.Data.{Num, Data, unsigned, negative, float, number, string}
use Rattle.serde_json.specs.Find.{as_i64}
use Rattle.serde_json.specs.Read.{number_of}
use Rattle.numerals.specs.Numeral.{denominator, numerator, parts_of}
use Rattle.numerals.specs.Whole.{is_numeral}
use Rattle.attributes.specs.declared.rules.Reals.{Reals}
use Rattle.attributes.specs.declared.rules.Reals.TheVariants.{Whole, Text, Refuse}

-- how many of the first n bytes are left without the zeros at their end
abbrev pub zeros_cut : List ℕ → ℕ → ℕ
zeros_cut text zero = zero
zeros_cut text (suc n) = if slice_index text n == 48 then zeros_cut text n else suc n

-- and without a point at their end
abbrev pub point_cut : List ℕ → ℕ → ℕ
point_cut text zero = zero
point_cut text (suc n) = if slice_index text n == 46 then n else suc n

-- a point, and no exponent
abbrev pub has_fraction : List ℕ → Bool
has_fraction text = (parts_of text).point && length (parts_of text).exponent == 0

-- the numeral without the zeros that end its fraction, as 8810.04 for 8810.0400 and 99 for 99.0; with an exponent it
-- stays as it is written
abbrev pub spelled : List ℕ → List ℕ
spelled text = if has_fraction text then take (point_cut text (zeros_cut text (length text))) text else text

-- the whole number of 64 bits that a numeral is, as `serde_json` reads it: with no fraction and no exponent, and not `-0`
abbrev pub whole : Option Num → Option Num
whole None = None
whole (Some (unsigned n)) = Some (unsigned n)
whole (Some (negative z)) = Some (negative z)
whole (Some (float x)) = None

-- the same of a numeral's text
abbrev pub written_whole : List ℕ → Option Num
written_whole text = whole (number_of text)

-- the whole number that a numeral is worth, where it is worth one: 5 for 5.0, 1000 for 1e3, 0 for -0 [RFC 8259, section 6]
abbrev pub integer_of : List ℕ → Option ℤ
integer_of text =
    if is_numeral text && (unsigned_abs (numerator text) % denominator text == 0)
    then Some (with_sign (starts_with_minus text) (unsigned_abs (numerator text) / denominator text)) else None

-- a whole number of 64 bits, from -2^63 to 2^64 - 1
abbrev pub in_64_bits : ℤ → Option Num
in_64_bits (pos n) = if nat_lt n (2 ^ 64) then Some (unsigned n) else None
in_64_bits (negsuc n) = if nat_lt n (2 ^ 63) then Some (negative (negsuc n)) else None

-- the whole number of 64 bits that a numeral is: the one that it is worth, or, where numbers that are written otherwise become
-- texts, the one that it is written as
abbrev pub whole_of : Reals → List ℕ → Option Num
whole_of Whole text = option_and_then in_64_bits (integer_of text)
whole_of Text text = written_whole text
whole_of Refuse text = option_and_then in_64_bits (integer_of text)

-- the same of 64 signed bits
abbrev pub signed_of : Reals → List ℕ → Option ℤ
signed_of rule text = option_and_then as_i64 (whole_of rule text)

-- a whole number, or else a text
abbrev pub number_or_text : Option Num → List ℕ → Data
number_or_text (Some n) text = number n
number_or_text None text = string text

-- the value of a number: the whole number of 64 bits that it is, or else the text of its numeral
abbrev pub number_value : Reals → List ℕ → Data
number_value rule text = number_or_text (whole_of rule text) (spelled text)

-- 10^places times a numeral without its sign, rounded to the nearest whole number, upward from half on
abbrev pub scaled_size : ℕ → List ℕ → ℕ
scaled_size places text =
    let n = digits_of (parts_of text) * 10 ^ (tens_up (parts_of text) + places) in
    let d = 10 ^ tens_down (parts_of text) in
    (n * 2 + d) / (d * 2)

-- the whole number that is nearest to 10^places times a numeral, of two that are equally near the one farther from 0;
-- none where the text is no numeral, or beyond the limit
abbrev pub scaled : ℕ → List ℕ → Option ℤ
scaled places text =
    if is_numeral text && nat_le (scaled_size places text) (2 ^ 40)
    then Some (with_sign (starts_with_minus text) (scaled_size places text)) else None
