-- Decimal numerals, and how many steps they are worth.
use Rattle.std.specs.Prelude.{◌≡◌, ℕ, ℤ, pos, ◌*◌, ◌*ℤ◌, ◌^◌, ◌≤◌, ◌≤ℤ◌, IsTrue, List, length, drop, if◌then◌else◌}
use Rattle.std.specs.Str.Parse.{starts_with_minus}
use Rattle.numerals.specs.Nearest.{IsNearest}
use Rattle.fast_float.specs.Text.{Parts, scan, has_digits, digits_of, tens_up, tens_down, with_sign}

-- the text without a minus in front
abbrev pub unsigned_text : List ℕ → List ℕ
unsigned_text text = drop (if starts_with_minus text then 1 else 0) text

-- its whole digits, those behind the point, and its exponent
abbrev pub parts_of : List ℕ → Parts
parts_of text = scan (unsigned_text text)

-- perhaps a minus, then digits, perhaps with a point, then perhaps an exponent
-- [RFC 8259, section 6, and a little more (`.5`, `007`)]
pub record IsNumeral (text : List ℕ) : Type 0 where
  pub digits : IsTrue (has_digits (parts_of text))
  pub complete : (parts_of text).len ≡ length (unsigned_text text)

-- A numeral is worth numerator / denominator: all its digits as one number, times 10 to a positive exponent,
-- over 10 to the count of digits behind its point and to a negative exponent. [RFC 8259, section 6]
abbrev pub numerator : List ℕ → ℤ
numerator text = with_sign (starts_with_minus text) (digits_of (parts_of text) * 10 ^ tens_up (parts_of text))

-- the denominator of a numeral's value: 10 to the count of digits behind its point and to a negative exponent
-- [RFC 8259, section 6]
abbrev pub denominator : List ℕ → ℕ
denominator text = 10 ^ tens_down (parts_of text)

-- the numeral a is worth no more than b, or the same
abbrev pub IsAtMost : List ℕ → List ℕ → Type 0
IsAtMost a b = (numerator a *ℤ pos (denominator b)) ≤ℤ (numerator b *ℤ pos (denominator a))

abbrev pub AreEqual : List ℕ → List ℕ → Type 0
AreEqual a b = numerator a *ℤ pos (denominator b) ≡ numerator b *ℤ pos (denominator a)

-- a step is worth size / 10 ^ places
pub record Measure : Type 0 where
  pub size : ℕ
  pub places : ℕ

-- a step by its size and its count of decimal places
abbrev pub measure : ℕ → ℕ → Measure
measure size places = record { size = size; places = places }

-- a numeral with no sign
pub record IsUnsigned (text : List ℕ) : Type 0 where
  pub digits : IsTrue (has_digits (scan text))
  pub complete : (scan text).len ≡ length text

-- the step of the same worth
abbrev pub measure_of : List ℕ → Measure
measure_of text = measure (digits_of (scan text) * 10 ^ tens_up (scan text)) (tens_down (scan text))

-- the size is not 0, and within its limit
pub record IsMeasure (s : Measure) : Type 0 where
  pub some : 1 ≤ s.size
  pub limit : s.size ≤ 10 ^ 12

-- a numeral is worth dividend / divisor steps
abbrev pub dividend : Measure → List ℕ → ℤ
dividend s text = numerator text *ℤ pos (10 ^ s.places)

-- the divisor of a numeral's value in steps: the step's size times the numeral's denominator
abbrev pub divisor : Measure → List ℕ → ℕ
divisor s text = s.size * denominator text

-- p is the whole number of steps that is nearest to the numeral
abbrev pub IsSnapped : Measure → List ℕ → ℤ → Type 0
IsSnapped s text p = IsNearest (dividend s text) (divisor s text) p

-- a step is k units, a whole number of them from 1 to 1,000,000
pub record IsOver (s unit : Measure) (k : ℕ) : Type 0 where
  pub some : 1 ≤ k
  pub limit : k ≤ 10 ^ 6
  pub worth : s.size * 10 ^ unit.places ≡ k * unit.size * 10 ^ s.places
