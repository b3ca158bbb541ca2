-- Numerals that are worth whole numbers.
use Rattle.std.specs.Prelude.{◌≡◌, ℕ, pos, ◌*◌, ◌*ℤ◌, ◌/◌, ◌%◌, ◌^◌, ◌<◌, Bool, false, ◌==◌, ◌&&◌, nat_lt, List, length, Option, Some, None, if◌then◌else◌}
use Rattle.std.specs.Str.Parse.{starts_with_minus}
use Rattle.fast_float.specs.Text.{digits_of, has_digits, tens_up, with_sign}
use Rattle.numerals.specs.Numeral.{IsNumeral, denominator, numerator, parts_of, unsigned_text}

-- the text is a numeral that is worth the whole number of so much, with or without a minus, below 2 ^ 64; 0 has no minus
pub record IsWhole (text : List ℕ) (negative : Bool) (size : ℕ) : Type 0 where
  pub numeral : IsNumeral text
  pub worth : with_sign negative size *ℤ pos (denominator text) ≡ numerator text
  pub limit : size < 2 ^ 64
  pub zero : size ≡ 0 → negative ≡ false

-- the text is a numeral
abbrev pub is_numeral : List ℕ → Bool
is_numeral text = has_digits (parts_of text) && (parts_of text).len == length (unsigned_text text)

-- a numeral without its sign, times the denominator of its value
abbrev pub numeral_size : List ℕ → ℕ
numeral_size text = digits_of (parts_of text) * 10 ^ tens_up (parts_of text)

-- the sign and the size of the whole number below 2 ^ 64 that a numeral is worth, however it is written; 0 has no minus
abbrev pub whole_of : List ℕ → Option (Bool × ℕ)
whole_of text =
    let size = numeral_size text / denominator text in
    if is_numeral text && numeral_size text % denominator text == 0 && nat_lt size (2 ^ 64) then Some ((starts_with_minus text && nat_lt 0 size), size) else None
