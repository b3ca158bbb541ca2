-- Numerals with no exponent, read digit by digit.
use Rattle.std.specs.Prelude.{◌≡◌, ℕ, IsTrue, List, ◌++◌, length}
use Rattle.std.specs.Str.Parse.{AllDigits, digits_value_after}
use Rattle.fast_float.specs.Text.{scan, has_digits, digits_of, tens_up, tens_down}

-- the text begins with digits, which are the number behind those of the value, and goes on by the rest
pub record IsFront (value : ℕ) (text : List ℕ) (number : ℕ) (rest : List ℕ) : Type 0 where
  pub front : List ℕ
  pub all : text ≡ front ++ rest
  pub digits : AllDigits 10 front
  pub is : number ≡ digits_value_after 10 value front

-- the text is a numeral with no exponent: its digits are the number, and so many of them stand behind the point
pub record IsShort (text : List ℕ) (number places : ℕ) : Type 0 where
  pub some : IsTrue (has_digits (scan text))
  pub complete : (scan text).len ≡ length text
  pub digits : digits_of (scan text) ≡ number
  pub up : tens_up (scan text) ≡ 0
  pub down : tens_down (scan text) ≡ places
