-- Decimal numbers that are printed.
use Rattle.std.specs.Prelude.{◌≡◌, ℕ, zero, suc, ℤ, pos, negsuc, Bool, true, false, ◌*ℤ◌, ◌+◌, ◌-◌, ◌/◌, ◌%◌, ◌^◌, ◌<◌, ◌≤◌, List, ◌++◌, codes, length, take, drop, replicate, ◌==◌, nat_lt, if◌then◌else◌, unsigned_abs}
use Rattle.std.specs.Fmt.{decimal, sign_text}
use Rattle.numerals.specs.Numeral.{Measure, IsNumeral, numerator, denominator}

-- an amount is worth value / 10 ^ places
pub record Amount : Type 0 where
  pub value : ℤ
  pub places : ℕ

-- the amount of a value and its places
abbrev pub amount : ℤ → ℕ → Amount
amount value places = record { value = value; places = places }

-- at most 30 digits are behind its point
pub record IsAmount (a : Amount) : Type 0 where
  pub short : a.places ≤ 30

-- so many steps
abbrev pub steps_amount : Measure → ℤ → Amount
steps_amount s steps = amount (steps *ℤ pos s.size) s.places

-- the amount over a power of ten
abbrev pub over_power : ℕ → Amount → Amount
over_power places a = amount a.value (a.places + places)

-- A number of 10 ^ places-ths with no zero at the end of its fraction.
pub record Shortest : Type 0 where
  pub size : ℕ
  pub places : ℕ

-- size / 10 ^ places without the zeros at the end of its fraction: 2500 / 10 ^ 3 becomes 25 / 10
abbrev pub shortest : ℕ → ℕ → Shortest
shortest zero size = record { size = size; places = 0 }
shortest (suc places) size = if size % 10 == 0 then shortest places (size / 10) else record { size = size; places = suc places }

-- digits with a point before the last so many, and zeros where there are fewer
abbrev pub pointed : List ℕ → ℕ → List ℕ
pointed digits places =
    if places == 0 then digits
    else (if nat_lt places (length digits) then take (length digits - places) digits ++ (codes "." ++ drop (length digits - places) digits)
    else codes "0." ++ (replicate (places - length digits) 48 ++ digits))

abbrev pub shortest_text : Shortest → List ℕ
shortest_text s = pointed (decimal s.size) s.places

-- the number has a minus
abbrev pub is_below : ℤ → Bool
is_below (pos n) = false
is_below (negsuc n) = true

-- an amount as JSON has it, with no exponent and no zeros at the end of its fraction: `-2.5` [RFC 8259, 6]
abbrev pub amount_text : Amount → List ℕ
amount_text a = sign_text (is_below a.value) ++ shortest_text (shortest a.places (unsigned_abs a.value))

-- the text is a numeral that is worth just the amount
pub record IsWorth (text : List ℕ) (a : Amount) : Type 0 where
  pub numeral : IsNumeral text
  pub worth : numerator text *ℤ pos (10 ^ a.places) ≡ a.value *ℤ pos (denominator text)

-- what is printed of an amount is worth just the amount
abbrev pub TextsAreWorth : Type 0
TextsAreWorth = (a : Amount) → unsigned_abs a.value < 2 ^ 128 → IsWorth (amount_text a) a
